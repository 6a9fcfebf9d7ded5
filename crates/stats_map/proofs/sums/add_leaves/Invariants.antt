use Rattle.std.proofs.Common.{◌≡◌, true, take}
use Rattle.std.specs.Prelude.{IsSome}
use Rattle.std.specs.List.{list_any}
use Rattle.cv_io.specs.Leaves.{same_leaf}
use Rattle.cv_io.specs.declared.leaf.Leaf.{Leaf}
use Rattle.stats_map.specs.InsideSums.{HaveMore, sum_at}
use Rattle.stats_map.proofs.sums.add_leaves.Given as goal

abbrev pub invariant-loop-leaf : goal.invariant-loop-leaf
invariant-loop-leaf l =
    HaveMore l.fn.sums.entries l.sums.entries
    × ((leaf : Leaf) → list_any (same_leaf leaf) (take l.leaf-index l.leaf-items) ≡ true
    → IsSome (sum_at leaf l.sums.entries))
