use Rattle.std.proofs.Common.{◌≡◌, drop}
use Rattle.std.specs.List.{enumerate_from}
use Rattle.virtual_topology.specs.Faults.{first_answer, too_many_at}
use Rattle.virtual_topology.proofs.limits.check_switches.Given as goal

abbrev pub invariant-loop-number : goal.invariant-loop-number
invariant-loop-number l = first_answer (too_many_at) (drop l.number (enumerate_from 0 l.switches))
    ≡ first_answer (too_many_at) (enumerate_from 0 l.switches)
