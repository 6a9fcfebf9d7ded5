use Rattle.std.proofs.Common.{◌≡◌, drop}
use Rattle.std.specs.List.{enumerate_from}
use Rattle.virtual_topology.specs.Faults.{first_answer}
use Rattle.inner_paths.specs.Cuts.{cut_between}
use Rattle.inner_paths.proofs.cut.check_from.Given as goal

abbrev pub invariant-loop-to : goal.invariant-loop-to
invariant-loop-to l = first_answer (cut_between l.topology l.v (l.from, l.from_item))
    (drop l.to (enumerate_from 0 l.switches)) ≡ first_answer (cut_between l.topology l.v (l.from, l.from_item))
    (enumerate_from 0 l.switches)
