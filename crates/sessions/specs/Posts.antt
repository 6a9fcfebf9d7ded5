-- Posts to a desk, with their answers.
use Rattle.std.specs.Prelude.{◌≡◌, ◌⊎◌, ◌<◌, ◌≤◌, ℕ, Bool, List, [], ◌∷◌, ◌++◌, map, ⊤}
use Rattle.cv_io.specs.declared.leaf.Session.{Session}
use Rattle.cv_io.specs.declared.leaf.Who.{Who}
use Rattle.events.specs.declared.event.Event.TheVariants as events
use Rattle.events.specs.declared.event.Reply.TheVariants as replies
use Rattle.sessions.specs.declared.desk.Heard.{Heard}
use Rattle.sessions.specs.declared.desk.Heard.TheVariants as hearings
use Rattle.sessions.specs.declared.desk.Post.{Post}
use Rattle.sessions.specs.declared.desk.Taken.{Taken}
use Rattle.sessions.specs.declared.desk.Taken.TheVariants as takings

-- a member or a switch came up, in this round
abbrev pub coming_up : Who → Bool → ℕ → Post
coming_up who arp round = record { event = events.Up who arp; reply = replies.Opened round }

-- a session sent a frame
abbrev pub message : Session → List ℕ → Post
message session frame = record { event = events.Msg session frame; reply = replies.Done }

-- it sent these, in order
abbrev pub messages : Session → List (List ℕ) → List Post
messages session frames = map (message session) frames

-- a session went
abbrev pub going : Session → Post
going session = record { event = events.Gone session; reply = replies.Done }

-- the clock showed a second
abbrev pub second_told : ℕ → Post
second_told second = record { event = events.Tick second; reply = replies.Done }

-- a message was taken for a session
abbrev pub taking : Session → List ℕ → Post
taking session message = record { event = events.Take session; reply = replies.Taken message }

-- the post was made, unless the session had ended
abbrev pub AddsHeard : List Post → List Post → Post → Heard → Type 0
AddsHeard old new post hearings.Heard = new ≡ old ++ post ∷ []
AddsHeard old new post (hearings.Closed at) = new ≡ old

-- it is refused only where the session had ended
abbrev pub IsRefusedWhere : (ℕ → Type 0) → Heard → Type 0
IsRefusedWhere ended hearings.Heard = ⊤
IsRefusedWhere ended (hearings.Closed at) = ended at

-- what was shown is shown still
abbrev pub StillShows : (shown shows : ℕ → Type 0) → Type 0
StillShows shown shows = (second : ℕ) → shown second → shows second

-- each second above the first one is shown, up to the other
abbrev pub ShowsUpTo : (shows : ℕ → Type 0) (first last : ℕ) → Type 0
ShowsUpTo shows first last = (second : ℕ) → first < second → second ≤ last → shows second

-- the post was made, or was idle
abbrev pub MayAdd : List Post → List Post → Post → Type 0
MayAdd old new post = (new ≡ old) ⊎ (new ≡ old ++ post ∷ [])

-- a message was taken, or nothing was
abbrev pub AddsTaken : List Post → List Post → Session → Taken → Type 0
AddsTaken old new session (takings.Message message) = new ≡ old ++ taking session message ∷ []
AddsTaken old new session (takings.Empty at) = new ≡ old
AddsTaken old new session (takings.Closed at) = new ≡ old

-- nothing is found only where nothing waited, and a taking is refused only where the session had ended
abbrev pub Finds : (ended waits : ℕ → Type 0) → Taken → Type 0
Finds ended waits (takings.Message message) = ⊤
Finds ended waits (takings.Empty at) = waits at
Finds ended waits (takings.Closed at) = ended at

-- that the session went was posted, unless it had ended
abbrev pub Leaves : (ℕ → Type 0) → List Post → List Post → Session → Type 0
Leaves ended old new session = (new ≡ old ++ going session ∷ []) ⊎ ((new ≡ old) × ((at : ℕ) × ended at))
