-- What a change of a member's rules does to a compiled expression.
use Rattle.std.proofs.Common.{◌≡◌, ℕ, List, length, map, ap, subst, ◌∙◌}
use Rattle.std.specs.Prelude.{IsPermutation}
use Rattle.list_change.specs.Changes.{Apart, Changed}
use Rattle.policy_meaning.specs.Order.{IsListing}
use Rattle.policy_meaning.specs.Rules.{rules_of}
use Rattle.policy_meaning.specs.declared.rule.Rule.{Rule}
use Rattle.rule_ancestry.specs.Holding.{Held, item_of}
use Rattle.made_rules.specs.Changing.{ChangeOf, IsReady}
use Rattle.made_rules.specs.Rules.{rule_of}
use Rattle.made_rules.specs.declared.made.Made.{Made}
use Rattle.std.proofs.lemmas.List.Sorted.{IsPermutation-sym, IsPermutation-trans}
use Rattle.incr_compile.specs.Compiling.{Asks, IsOf, MemberChanges, policy_in, rules_at, rules_held}
use Rattle.incr_compile.specs.Trees.{CanChange, IsOnce, IsReadyIn, IsSettled, IsTree, IsUnderWay, TreeOf, made_in}
use Rattle.incr_compile.specs.Trees.{tree_of}
use Rattle.incr_compile.specs.declared.compiled.LeafDelta.{LeafDelta}
use Rattle.incr_compile.specs.declared.tree.MemberChange.{MemberChange}
use Rattle.incr_compile.specs.declared.tree.Tree.{Tree}
use Rattle.incr_compile.proofs.Scratch.{changed-of, from-scratch, same-policy}
use Rattle.incr_compile.proofs.Told.{gone-count, same-once, told-apart, told-changed}
use Rattle.incr_compile.proofs.TreeLemmas.{RootIsReady, root-ready}

module _ (asked : MemberChange) (before : TreeOf) (now : Tree) (change : ChangeOf) (can : CanChange asked before)
    (f : (after : List (Held Made)) × IsReadyIn asked before now change after) where
  pub under-way : IsUnderWay now change
  under-way = record { asked = asked; before = before; after = f.0; can = can; ready = f.1 }

  root : RootIsReady (made_in before) (made_in (tree_of now)) change f.0
  root = root-ready asked before now change f.0 f.1

  -- how many rules leave the root
  pub leaving : (left : List Made)
      → ((b : List (Held Made)) (lost : List ℕ) (fresh : List Made)
      (r : IsReady b (made_in (tree_of now)) lost fresh change) → left ≡ map item_of r.going)
      → length left ≡ length change.gone
  leaving left l = gone-count (made_in before) (made_in (tree_of now)) root.lost root.fresh change root.ready left
      (l (made_in before) root.lost root.fresh root.ready)

  module _ (new : TreeOf) (settle : (a : MemberChange) (b : TreeOf) (m : List (Held Made)) → CanChange a b
      → IsReadyIn a b now change m → IsSettled a b new m) where
    done : IsSettled asked before new f.0
    done = settle asked before f.0 can f.1

    pub applied-tree : IsTree new × IsOnce new
    applied-tree = (done.is_tree, same-once asked before new done.changes can.once)

    pub applied-policy : policy_in new ≡ policy_in before
    applied-policy = same-policy asked before new done.changes

    pub applied-members : (delta : LeafDelta) → Asks delta asked → (sizes : ℕ → ℕ) (rules rules' : ℕ → List Rule)
        → MemberChanges delta rules rules' → IsOf sizes rules before → IsOf sizes rules' new
    applied-members delta k sizes rules rules' m o =
        changed-of delta asked sizes rules rules' k m before new can.is_tree done.changes o

    module _ (left : List Made)
        (l : (b : List (Held Made)) (lost : List ℕ) (fresh : List Made)
        (r : IsReady b (made_in (tree_of now)) lost fresh change) → left ≡ map item_of r.going)
        (come : List Rule) (c : (b : List (Held Made)) (lost : List ℕ) (fresh : List Made)
        (r : IsReady b (made_in (tree_of now)) lost fresh change) → come ≡ rules_held r.coming)
        (gone : List Rule) (g : gone ≡ map rule_of left) where
      is-gone : gone ≡ rules_held root.ready.going
      is-gone = g ∙ ap (map rule_of) (l (made_in before) root.lost root.fresh root.ready)

      is-come : come ≡ rules_held root.ready.coming
      is-come = c (made_in before) root.lost root.fresh root.ready

      pub applied-told : Changed (rules_at before) (rules_at new) gone come
      applied-told =
          told-changed (made_in before) (made_in (tree_of now)) root.lost root.fresh change root.ready (made_in new)
          gone come
          (subst (λ (z : List (Held Made)). IsPermutation (made_in new) z) root.after_is done.root) is-gone is-come

      pub applied-apart : Apart gone come
      applied-apart = told-apart (made_in before) (made_in (tree_of now)) root.lost root.fresh change root.ready gone
          come is-gone is-come

-- the rules that are listed are those from scratch
pub listed-scratch : (sizes : ℕ → ℕ) (rules : ℕ → List Rule) (t : TreeOf) (list : List Rule) → IsTree t
    → IsOf sizes rules t → IsListing (rules_at t) list → IsPermutation (rules_of sizes rules (policy_in t)) list
listed-scratch sizes rules t list is o l =
    IsPermutation-trans _ _ _ (IsPermutation-sym _ _ (from-scratch sizes rules t is o)) l.same
