-- What a call answers that reads an event.
use Rattle.std.specs.Prelude.{◌≡◌, Option, Some, None, Result, Ok, Err}
use Rattle.events.specs.declared.event.Event.{Event}
use Rattle.events.specs.declared.reading.EventFault.{EventFault}
use Rattle.events.specs.declared.reading.EventFault.TheVariants.{Bad, Memory}

-- the event that was read; Bad exactly where there is none, unless memory ran out
abbrev pub Gives : Result Event EventFault → Option Event → Type 0
Gives (Ok e) read = read ≡ Some e
Gives (Err Bad) read = read ≡ None
Gives (Err Memory) read = Unit {0}
