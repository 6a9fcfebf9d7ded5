use Rattle.std.proofs.Common.{◌≡◌, drop}
use Rattle.std.specs.List.{enumerate_from}
use Rattle.virtual_topology.specs.Faults.{first_answer, mixed_item}
use Rattle.virtual_topology.proofs.mixed.check_mixed.Given as goal

abbrev pub invariant-loop-number : goal.invariant-loop-number
invariant-loop-number l = first_answer (mixed_item l.links l.outside) (drop l.number (enumerate_from 0 l.virtuals))
    ≡ first_answer (mixed_item l.links l.outside) (enumerate_from 0 l.virtuals)
