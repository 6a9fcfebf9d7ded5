use Rattle.std.proofs.Common.{◌≡◌, drop}
use Rattle.std.specs.List.{enumerate_from}
use Rattle.virtual_topology.specs.Faults.{first_answer}
use Rattle.inner_paths.specs.Cuts.{cut_from}
use Rattle.inner_paths.proofs.cut.check_virtual.Given as goal

abbrev pub invariant-loop-from : goal.invariant-loop-from
invariant-loop-from l = first_answer (cut_from l.topology l.v) (drop l.from (enumerate_from 0 l.switches))
    ≡ first_answer (cut_from l.topology l.v) (enumerate_from 0 l.switches)
