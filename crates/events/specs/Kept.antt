-- Events that keep their bounds, and what holds of their bytes.
use Rattle.std.specs.Prelude.{◌≡◌, ℕ, ◌<◌, ◌≤◌, ◌^◌, List, Some, length, true}
use Rattle.std.specs.List.{list_all}
use Rattle.of10_actions.specs.Spelling.{IsBytes}
use Rattle.cv_io.specs.declared.leaf.Session.{Session}
use Rattle.cv_io.specs.declared.leaf.Who.{Who}
use Rattle.cv_io.specs.declared.leaf.Who.TheVariants.{Member, Switch, Audit}
use Rattle.events.specs.Reading.{is_ascii, reading}
use Rattle.events.specs.Spelling.{spelling}
use Rattle.events.specs.declared.event.Event.{Event}
use Rattle.events.specs.declared.event.Event.TheVariants.{Up, Msg, Gone, Tick, Take, Policy}

-- there are at most 32 members and 16 switches
abbrev pub IsKnown : Who → Type 0
IsKnown (Member n) = n < 32
IsKnown (Switch n) = n < 16
IsKnown Audit = Unit {0}

pub record IsSession (s : Session) : Type 0 where
  pub who : IsKnown s.who
  pub round : s.round < 2 ^ 64

-- an event keeps its bounds
abbrev pub IsKept : Event → Type 0
IsKept (Up who arp) = IsKnown who
IsKept (Msg session frame) = IsSession session × (length frame ≤ 65535)
IsKept (Gone session) = IsSession session
IsKept (Tick second) = second < 2 ^ 64
IsKept (Take session) = IsSession session
IsKept (Policy v text) = (v < 2 ^ 32) × ((length text ≤ 1024) × (list_all is_ascii text ≡ true))

-- what was written of an event that keeps its bounds is read as it
abbrev pub WrittenIsRead : Type 0
WrittenIsRead = (e : Event) → IsKept e → reading (spelling e) ≡ Some e

-- bytes that are read as an event are those that are written of it, and it keeps its bounds
abbrev pub NothingElseIsRead : Type 0
NothingElseIsRead =
    (bytes : List ℕ) (e : Event) → IsBytes bytes → reading bytes ≡ Some e → (bytes ≡ spelling e) × IsKept e
