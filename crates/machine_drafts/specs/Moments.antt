-- The moment of an event, and the session of a taking.
use Rattle.std.specs.Prelude.{◌≡◌, ℕ, Option, Some, None}
use Rattle.cv_io.specs.declared.leaf.Session.{Session}
use Rattle.machine_drafts.specs.Outcomes.{Bases}
use Rattle.events.specs.declared.event.Event.{Event}
use Rattle.events.specs.declared.event.Event.TheVariants.{Up, Msg, Gone, Tick, Take, Policy}

-- a Tick tells its second; each other event is of the greatest second told before
abbrev pub moment_of : Event → ℕ → ℕ
moment_of (Tick second) told = second
moment_of (Up who arp) told = told
moment_of (Msg session frame) told = told
moment_of (Gone session) told = told
moment_of (Take session) told = told
moment_of (Policy v text) told = told

-- the draft of a Tick is of its second
abbrev pub IsOfEvent : Event → Bases → Type 0
IsOfEvent e b = moment_of e b.moment ≡ b.moment

-- the session that is taken from, if the event is a taking
abbrev pub taking_in : Event → Option Session
taking_in (Take session) = Some session
taking_in (Tick second) = None
taking_in (Up who arp) = None
taking_in (Msg session frame) = None
taking_in (Gone session) = None
taking_in (Policy v text) = None
