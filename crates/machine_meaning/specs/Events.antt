-- Events as the types of the program have them.
use Rattle.std.specs.Prelude.{ℕ, ◌<◌, ◌^◌, List, length}
use Rattle.std.specs.List.{AllByRecursion}
use Rattle.cv_io.specs.declared.leaf.Session.{Session}
use Rattle.events.specs.declared.event.Event.{Event}
use Rattle.events.specs.declared.event.Event.TheVariants.{Up, Msg, Gone, Tick, Take, Policy}

-- bytes, fewer than 2^63
pub record AreBytes (bytes : List ℕ) : Type 0 where
  pub each : AllByRecursion (λ byte. byte < 256) bytes
  pub few : length bytes < 2 ^ 63

-- the round of a session is a number of 64 bits
abbrev pub IsSession : Session → Type 0
IsSession session = session.round < 2 ^ 64

-- an event's numbers fit their types
abbrev pub IsEvent : Event → Type 0
IsEvent (Up who arp) = Unit {0}
IsEvent (Msg session frame) = IsSession session × AreBytes frame
IsEvent (Gone session) = IsSession session
IsEvent (Tick second) = second < 2 ^ 64
IsEvent (Take session) = IsSession session
IsEvent (Policy v text) = (v < 2 ^ 32) × AreBytes text
