-- The answer of a post, as a session reads it.
use Rattle.std.specs.Prelude.{ℕ}
use Rattle.events.specs.declared.event.Reply.{Reply}
use Rattle.events.specs.declared.event.Reply.TheVariants as replies
use Rattle.sessions.specs.declared.desk.Heard.{Heard}
use Rattle.sessions.specs.declared.desk.Heard.TheVariants as hearings
use Rattle.sessions.specs.declared.desk.Taken.{Taken}
use Rattle.sessions.specs.declared.desk.Taken.TheVariants as takings

-- a frame or a going that was answered at a place
abbrev pub hearing_of : ℕ → Reply → Heard
hearing_of place replies.Closed = hearings.Closed place
hearing_of place reply = hearings.Heard

-- a taking that was
abbrev pub taking_of : ℕ → Reply → Taken
taking_of place (replies.Taken message) = takings.Message message
taking_of place replies.Empty = takings.Empty place
taking_of place reply = takings.Closed place
