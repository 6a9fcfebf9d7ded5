use Rattle.std.proofs.Common.{◌≡◌, ◌++◌}
use Rattle.stats_map.proofs.copies.copied_sums.Given as goal

abbrev pub invariant-loop-leaf : goal.invariant-loop-leaf
invariant-loop-leaf l = l.copied.entries ++ l.leaf-iterator ≡ l.sums.entries
