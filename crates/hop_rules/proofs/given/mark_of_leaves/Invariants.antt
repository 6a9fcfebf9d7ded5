use Rattle.std.proofs.Common.{◌≡◌, drop}
use Rattle.hop_rules.specs.Handed.{leaves_mark}
use Rattle.hop_rules.proofs.given.mark_of_leaves.Given as goal

abbrev pub invariant-loop-leaf : goal.invariant-loop-leaf
invariant-loop-leaf l = leaves_mark (drop l.leaf-index l.leaves) l.mark ≡ leaves_mark l.leaves 0
