-- An event as bytes: its kind, and its fields. Numbers have their highest byte first.
use Rattle.std.specs.Prelude.{ℕ, Bool, true, false, List, [], ◌∷◌, ◌++◌}
use Rattle.byteorder.specs.Endian.{big_bytes}
use Rattle.cv_io.specs.declared.leaf.Session.{Session}
use Rattle.cv_io.specs.declared.leaf.Who.{Who}
use Rattle.cv_io.specs.declared.leaf.Who.TheVariants.{Member, Switch, Audit}
use Rattle.events.specs.declared.event.Event.{Event}
use Rattle.events.specs.declared.event.Event.TheVariants.{Up, Msg, Gone, Tick, Take, Policy}

-- who: 0 for a member, 1 for a switch, 2 for the audit, and the number, 0 for the audit
abbrev pub who_bytes : Who → List ℕ
who_bytes (Member n) = 0 ∷ big_bytes 4 n
who_bytes (Switch n) = 1 ∷ big_bytes 4 n
who_bytes Audit = 2 ∷ big_bytes 4 0

-- a session: who, and the round
abbrev pub session_bytes : Session → List ℕ
session_bytes s = who_bytes s.who ++ big_bytes 8 s.round

-- a switch matches ARP addresses
abbrev pub flag : Bool → ℕ
flag false = 0
flag true = 1

-- an event: what follows the length of its record
abbrev pub spelling : Event → List ℕ
spelling (Up who arp) = 1 ∷ (who_bytes who ++ flag arp ∷ [])
spelling (Msg session frame) = 2 ∷ (session_bytes session ++ frame)
spelling (Gone session) = 3 ∷ session_bytes session
spelling (Tick second) = 4 ∷ big_bytes 8 second
spelling (Take session) = 5 ∷ session_bytes session
spelling (Policy v text) = 6 ∷ (big_bytes 4 v ++ text)
