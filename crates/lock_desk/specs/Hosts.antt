-- How a machine that sessions post to answers.
use Rattle.std.specs.Prelude.{◌≡◌, ◌⊎◌, ℕ, Bool, true, false, List}
use Rattle.cv_io.specs.declared.leaf.Session.{Session}
use Rattle.cv_io.specs.declared.leaf.Who.{Who}
use Rattle.events.specs.declared.event.Event.{Event}
use Rattle.events.specs.declared.event.Event.TheVariants.{Up, Msg, Gone, Take}
use Rattle.events.specs.declared.event.Reply.{Reply}
use Rattle.events.specs.declared.event.Reply.TheVariants.{Opened, Done, Taken, Empty, Closed}

module _ {S : Type 0} (reply : S → Event → Reply) (s : S) where
  -- a session has ended: each message of it is refused, and so is its going
  abbrev pub IsOver : Session → Type 0
  IsOver session = ((frame : List ℕ) → reply s (Msg session frame) ≡ Closed) × (reply s (Gone session) ≡ Closed)

  -- nothing waits for a session, or its round hasn't begun
  abbrev pub NothingWaits : Session → Type 0
  NothingWaits session = reply s (Take session) ≡ Empty

module _ {S : Type 0} (idle : S → Event → Bool) (reply : S → Event → Reply) (s : S) where
  -- who comes up does so in some round
  abbrev pub IsOpened : Who → Bool → Type 0
  IsOpened who arp = (idle s (Up who arp) ≡ false) × ((round : ℕ) × (reply s (Up who arp) ≡ Opened round))

  -- an event that isn't idle is done
  abbrev pub IsDone : Event → Type 0
  IsDone e = idle s e ≡ false → reply s e ≡ Done

  -- an event of a session is done; or it is idle and refused, and then the session has ended
  abbrev pub IsHeard : Session → Event → Type 0
  IsHeard session e = IsDone e × (idle s e ≡ true → (reply s e ≡ Closed) × IsOver reply s session)

  -- a taking finds a message; or it is idle, and then nothing waits, or the session has ended
  abbrev pub IsTaken : Session → Type 0
  IsTaken session =
      (idle s (Take session) ≡ false → (message : List ℕ) × (reply s (Take session) ≡ Taken message))
      × (idle s (Take session) ≡ true
      → NothingWaits reply s session ⊎ ((reply s (Take session) ≡ Closed) × IsOver reply s session))
