use Rattle.std.proofs.Common.{◌≡◌, map, take}
use Rattle.std.specs.List.{enumerate_from}
use Rattle.machine_drafts.specs.Setups.{ports_at}
use Rattle.machine_drafts.proofs.setup.ports.Given as goal

abbrev pub invariant-loop-v : goal.invariant-loop-v
invariant-loop-v l = l.ports ≡ map ports_at (take l.v (enumerate_from 0 l.virtuals))
