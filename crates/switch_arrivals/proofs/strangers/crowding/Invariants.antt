use Rattle.std.proofs.Common.{◌<◌}
use Rattle.switch_arrivals.specs.Strangers.{IsCrowdingAmong}
use Rattle.switch_arrivals.proofs.strangers.crowding.Given as goal

abbrev pub invariant-loop-at : goal.invariant-loop-at
invariant-loop-at g l = record { within : l.place < l.at; best : IsCrowdingAmong l.strangers l.at l.place }
