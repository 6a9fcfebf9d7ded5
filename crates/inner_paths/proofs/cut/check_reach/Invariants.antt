use Rattle.std.proofs.Common.{◌≡◌, length, drop}
use Rattle.std.specs.List.{range_with_len}
use Rattle.virtual_topology.specs.Faults.{first_answer}
use Rattle.inner_paths.specs.Cuts.{cut_of}
use Rattle.inner_paths.proofs.cut.check_reach.Given as goal

abbrev pub invariant-loop-v : goal.invariant-loop-v
invariant-loop-v l = first_answer (cut_of l.topology) (drop l.v (range_with_len 0 (length l.topology.virtuals)))
    ≡ first_answer (cut_of l.topology) (range_with_len 0 (length l.topology.virtuals))
