use Rattle.std.proofs.Common.{◌≡◌, drop}
use Rattle.std.specs.List.{enumerate_from}
use Rattle.virtual_topology.specs.Faults.{first_answer, too_many_of}
use Rattle.virtual_topology.proofs.limits.check_virtuals.Given as goal

abbrev pub invariant-loop-number : goal.invariant-loop-number
invariant-loop-number l = first_answer (too_many_of) (drop l.number (enumerate_from 0 l.virtuals))
    ≡ first_answer (too_many_of) (enumerate_from 0 l.virtuals)
