-- What a seat of the lock is as a pass of the desk.
use Rattle.std.specs.Prelude.{◌≡◌, ◌≤◌, ℕ, List, Some, length, map, take}
use mathlib.Core.List.{IsPrefix}
use Rattle.cv_io.specs.declared.leaf.Session.{Session}
use Rattle.events.specs.declared.event.Event.{Event}
use Rattle.events.specs.declared.event.Reply.{Reply}
use Rattle.policy_lock.specs.History.{after, calls_by}
use Rattle.policy_lock.specs.Seat.{SeatOf}
use Rattle.policy_lock.specs.declared.machine.Machine.{Ghosts}
use Rattle.policy_lock.specs.declared.view.Entry.{Entry}
use Rattle.policy_lock.specs.declared.view.Pass.{Pass}
use Rattle.sessions.specs.declared.desk.Post.{Post}
use Rattle.lock_desk.specs.Hosts.{IsOver, NothingWaits}

-- an entry, without the number of the seat
abbrev pub post_of : Entry Event Reply → Post
post_of x = record { event = x.event; reply = x.reply }

-- the calls of a number in a history
abbrev pub posts_by : List ℕ → List (Entry Event Reply) → List Post
posts_by number log = map post_of (calls_by number log)

module _ {E R S : Type 0} where
  -- the seat is the one that it was, and has seen all that it had, and maybe more
  pub record IsSince (old new : SeatOf E R S) : Type 0 where
    pub number : new.pass.number ≡ old.pass.number
    pub children : new.pass.children ≡ old.pass.children
    pub start : new.pass.start ≡ old.pass.start
    pub seen : IsPrefix old.pass.seen new.pass.seen

module _ {S : Type 0} where
  -- the seat's own calls, which are the posts of the pass
  abbrev pub own_posts : Pass Event Reply S → List Post
  own_posts p = posts_by p.number p.seen

module _ {M E R S : Type 0} (g : Ghosts M E R S) where
  -- so many entries of the history that a seat has seen have all its own calls, and this holds of the machine after
  -- them
  pub record HoldsAfter (p : Pass E R S) (at : ℕ) (P : S → Type 0) : Type 0 where
    pub long : at ≤ length p.seen
    pub own : calls_by p.number (take at p.seen) ≡ calls_by p.number p.seen
    pub holds : (s : S) → p.start ≡ Some s → P (after g s (take at p.seen))

module _ {M E R S : Type 0} (g : Ghosts M E R S) (is_at : S → ℕ → Type 0) where
  -- after the history that a seat has seen the machine has come to a second
  abbrev pub Shows : Pass E R S → ℕ → Type 0
  Shows p second = (s : S) → p.start ≡ Some s → is_at (after g s p.seen) second

module _ {M S : Type 0} (g : Ghosts M Event Reply S) where
  -- after so many entries of the history, among which are all calls of the seat, the machine refuses what the session
  -- sends
  abbrev pub HasEnded : Pass Event Reply S → Session → ℕ → Type 0
  HasEnded p session at = HoldsAfter g p at (λ s. IsOver g.reply s session)

  -- after so many nothing waits for it
  abbrev pub Waits : Pass Event Reply S → Session → ℕ → Type 0
  Waits p session at = HoldsAfter g p at (λ s. NothingWaits g.reply s session)
