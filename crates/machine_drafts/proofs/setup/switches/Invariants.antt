use Rattle.std.proofs.Common.{◌≡◌, map, take}
use Rattle.machine_meaning.specs.Lists.{places}
use Rattle.machine_meaning.specs.Ways.{switches_in}
use Rattle.machine_drafts.proofs.setup.switches.Given as goal

abbrev pub invariant-loop-v : goal.invariant-loop-v
invariant-loop-v l = l.switches ≡ map (switches_in l.topology) (take l.v (places l.topology.virtuals))
