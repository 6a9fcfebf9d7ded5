use Rattle.std.proofs.Common.{◌≡◌, ◌++◌, take}
use Rattle.policy_meaning.specs.LeafRules.{in_cells}
use Rattle.policy_meaning.proofs.leaf_rules.add_in_cells.Given as goal

abbrev pub invariant-loop-cell : goal.invariant-loop-cell
invariant-loop-cell l = l.rules ≡ l.fn.rules ++ in_cells (take l.cell-index l.cell-items) l.a
