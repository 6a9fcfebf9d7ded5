use Rattle.std.proofs.Common.{◌≡◌, ℕ, ◌+◌, ◌<◌, ◌≤◌, false, [], Some, length}
use Rattle.std.specs.Prelude.{IsPermutation, slice_get}
use Rattle.agreement.specs.declared.state.Setting.{Setting}
use Rattle.hop_rules.specs.Tables.{is_whole, rules_at as rules_kept}
use Rattle.incr_compile.specs.Compiling.{rules_at}
use Rattle.incr_compile.specs.Trees.{tree_of}
use Rattle.incr_compile.specs.declared.tree.Tree.{Tree}
use Rattle.composed_tables.specs.Rules.{AreRulesOf, AreSound, KeepsRest}
use Rattle.composed_tables.specs.Steps.{first_steps}
use Rattle.composed_tables.proofs.rules.hand_over_all.Given as goal

abbrev pub invariant-loop-v : goal.invariant-loop-v
invariant-loop-v g l = record {
  up : l.v ≤ length l.trees;
  rest : KeepsRest l.fn.hops l.hops;
  done : (u : ℕ) (t : Tree) → u < l.v → slice_get l.trees u ≡ Some t → is_whole l.fn.hops u ≡ false
      → IsPermutation (rules_at (tree_of t)) (rules_kept l.hops u);
  none : (u : ℕ) → l.v ≤ u → rules_kept l.hops u ≡ [];
  steps : (s : Setting) → AreSound l.trees
      → AreRulesOf s (record { trees = l.trees; sizes = l.sizes; whole = l.whole; hops = l.fn.hops })
      → l.steps ≤ l.fn.steps + first_steps l.fn.hops.plan s l.v;
}
