-- A compiled expression comes to the others, or changes among them.
use Rattle.std.proofs.Common.{◌≡◌, ℕ, List, Some, length, set, sym, ap, subst, ◌∙◌}
use Rattle.std.specs.Prelude.{slice_get}
use Rattle.std.proofs.lemmas.Option.{slice_get_within}
use Rattle.incr_compile.specs.Trees.{tree_of}
use Rattle.incr_compile.specs.declared.compiled.LeafDelta.{LeafDelta}
use Rattle.incr_compile.specs.declared.tree.Tree.{Tree}
use Rattle.op_compose.specs.declared.delta.RuleDelta.{RuleDelta}
use Rattle.policy_meaning.specs.Switches.{SwitchOf}
use Rattle.policy_meaning.specs.declared.network.Network.{Network}
use Rattle.switch_meaning.proofs.Items.{some_injective}
use Rattle.composed_tables.specs.Rules.{AreSound, AreTreesOf, IsAdded, IsChangedAt, IsTreeChanged, IsTreeOf}
use Rattle.composed_tables.proofs.Pushing.{each-pushed, set-here, set-long, set-there}
use Rattle.incr_compile.specs.Trees.{IsTree}
use Rattle.composed_tables.proofs.Tests.{differ}

-- one changes, in its place
pub changed-at : (v : ℕ) (delta : LeafDelta) (trees : List Tree) (t u : Tree) (told : RuleDelta)
    → slice_get trees v ≡ Some t
    → IsTreeChanged delta told (tree_of t) (tree_of u) → IsChangedAt v delta trees (set trees v u) told
changed-at v delta trees t u told is c = record {
  long = set-long trees v u;
  others = λ w ne. set-there trees v u w (differ w v ne);
  changed = λ a b at to.
      subst (λ (z : Tree). IsTreeChanged delta told (tree_of z) (tree_of b)) (some_injective (sym is ∙ at))
      (subst (λ (z : Tree). IsTreeChanged delta told (tree_of t) (tree_of z))
      (some_injective (sym (set-here trees v u (slice_get_within trees v t is)) ∙ to)) c);
}

-- one comes
module _ (net : Network) (before after : List Tree) (x : SwitchOf) (n : ℕ) (count : length before ≡ n)
    (at : slice_get net.switches n ≡ Some x)
    (a : IsAdded net.tables x before after) where
  pub trees-more : AreTreesOf net before → AreTreesOf net after
  trees-more are v y t there is =
      each-pushed (λ (k : ℕ) (z : Tree). (w : SwitchOf) → slice_get net.switches k ≡ Some w
      → IsTreeOf net.tables w z) before after a.tree a.added
      (λ k z f w g. are k w z g f)
      (λ w g. subst (λ (u : SwitchOf). IsTreeOf net.tables u a.tree)
      (some_injective (sym at ∙ (ap (slice_get net.switches) (sym count) ∙ g))) a.of)
      v t is y there

  pub sound-more : AreSound before → AreSound after
  sound-more are = each-pushed (λ (k : ℕ) (z : Tree). IsTree (tree_of z)) before after a.tree a.added are a.sound
