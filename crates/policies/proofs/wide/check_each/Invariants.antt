use Rattle.std.proofs.Common.{◌≡◌, drop}
use Rattle.std.specs.List.{enumerate_from}
use Rattle.virtual_topology.specs.Faults.{first_answer}
use Rattle.policies.specs.Widths.{number_at, too_wide_at}
use Rattle.policies.proofs.wide.check_each.Given as goal

abbrev pub invariant-loop-v : goal.invariant-loop-v
invariant-loop-v l = first_answer (too_wide_at (number_at l.needed)) (drop l.v (enumerate_from 0 l.virtuals))
    ≡ first_answer (too_wide_at (number_at l.needed)) (enumerate_from 0 l.virtuals)
