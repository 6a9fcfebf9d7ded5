use Rattle.std.proofs.Common.{◌≡◌, drop}
use Rattle.virtual_topology.specs.Faults.{first_answer, looped}
use Rattle.virtual_topology.proofs.check.check_cables.Given as goal

abbrev pub invariant-loop-cable : goal.invariant-loop-cable
invariant-loop-cable l = first_answer (looped) (drop l.cable-index (l.cables)) ≡ first_answer (looped) (l.cables)
