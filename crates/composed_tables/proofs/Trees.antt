-- The rules of a compiled expression are those of its expression from scratch, and change with those of a member.
use Rattle.std.proofs.Common.{◌≡◌, ◌≢◌, ℕ, List, [], ◌∷◌, refl, sym, ap, subst, ◌∙◌}
use Rattle.std.specs.Prelude.{IsPermutation, filter_map}
use Rattle.std.proofs.lemmas.List.Sorted.{IsPermutation-append, IsPermutation-append_left, IsPermutation-append_right}
use Rattle.std.proofs.lemmas.List.Sorted.{IsPermutation-map, IsPermutation-trans}
use Rattle.list_change.specs.Pairing.{Way, made}
use Rattle.list_change.proofs.PairLemmas.{by_left-permuted, pairs-right_permuted}
use Rattle.list_change.proofs.Permute.{by-equation, permuted-filter_map}
use Rattle.op_compose.specs.declared.op.Op.{Op}
use Rattle.op_compose.specs.declared.op.Op.TheVariants.{Hop, Over, Par, Seq}
use Rattle.policy_expr.specs.Policy.{Policy}
use Rattle.policy_expr.specs.Sizes.{size_of}
use Rattle.policy_meaning.specs.CentralFact.{EachMember}
use Rattle.policy_meaning.specs.Rules.{rules_of}
use Rattle.policy_meaning.specs.declared.rule.Rule.{Rule}
use Rattle.rule_ancestry.specs.Holding.{Held}
use Rattle.made_rules.specs.Rules.{rule_of, rules_in}
use Rattle.made_rules.specs.declared.made.Made.{Made}
use Rattle.incr_compile.specs.Compiling.{IsOf, composed_by, policy_in, rules_at, rules_held}
use Rattle.incr_compile.specs.Nodes.{IsNode, NodeOf, whole_size}
use Rattle.incr_compile.specs.Trees.{IsTree, TreeOf, branch, leaf, made_in, tree_size}
use Rattle.incr_compile.specs.Ways.{way, without_ids}
use Rattle.incr_compile.proofs.Bridge.{made-chains, made-shifts, made-sums, rules-made}

made-left : {A B C : Type 0} (w : Way A B C) (xs zs : List A) (ys : List B) → IsPermutation xs zs
    → IsPermutation (made w xs ys) (made w zs ys)
made-left w xs zs ys p = IsPermutation-append_left (filter_map w.other ys) _ _ (by_left-permuted w xs zs ys p)

made-right : {A B C : Type 0} (w : Way A B C) (xs : List A) (ys zs : List B) → IsPermutation ys zs
    → IsPermutation (made w xs ys) (made w xs zs)
made-right w xs ys zs p =
    IsPermutation-append _ _ _ _
    (IsPermutation-append_right (filter_map w.lone xs) _ _ (pairs-right_permuted w.pair xs ys zs p))
    (permuted-filter_map w.other ys zs p)

without-held : (hs : List (Held Made)) → without_ids (rules_in hs) ≡ rules_held hs
without-held [] = refl
without-held (h ∷ hs) = ap (λ z. h.item.rule ∷ z) (without-held hs)

whole-of : (op : Op) (sizes : ℕ → ℕ) (a b : Policy)
    → size_of sizes (composed_by op a b) ≡ whole_size op (size_of sizes a) (size_of sizes b)
whole-of Par sizes a b = refl
whole-of Seq sizes a b = refl
whole-of Over sizes a b = refl
whole-of Hop sizes a b = refl

-- the levels of a tree are those of its expression
pub size-is : (sizes : ℕ → ℕ) (rules : ℕ → List Rule) (t : TreeOf) → IsOf sizes rules t
    → tree_size t ≡ size_of sizes (policy_in t)
size-is sizes rules (leaf i size made) f = f.0
size-is sizes rules (branch n l r) f =
    ap (λ (k : ℕ). whole_size n.op k (tree_size r)) (size-is sizes rules l f.0)
    ∙ ap (λ (k : ℕ). whole_size n.op (size_of sizes (policy_in l)) k) (size-is sizes rules r f.1)
    ∙ sym (whole-of n.op sizes (policy_in l) (policy_in r))

by-operator : (op : Op) (sizes : ℕ → ℕ) (rules : ℕ → List Rule) (a b : Policy) → op ≢ Hop →
    IsPermutation (made (way op (size_of sizes b)) (rules_of sizes rules a) (rules_of sizes rules b))
    (rules_of sizes rules (composed_by op a b))
by-operator Par sizes rules a b h =
    by-equation _ _ (made-sums (size_of sizes b) (rules_of sizes rules a) (rules_of sizes rules b))
by-operator Seq sizes rules a b h = made-chains (size_of sizes b) (rules_of sizes rules a) (rules_of sizes rules b)
by-operator Over sizes rules a b h =
    by-equation _ _ (made-shifts (size_of sizes b) (rules_of sizes rules a) (rules_of sizes rules b))
by-operator Hop sizes rules a b h = absurd (h refl)

node-rules : (n : NodeOf) (lefts rights : List (Held Made)) → IsNode n (rules_in lefts) (rules_in rights)
    → IsPermutation (rules_held n.made) (made (way n.op n.size) (rules_held lefts) (rules_held rights))
node-rules n lefts rights h =
    IsPermutation-trans _ _ _ (IsPermutation-map rule_of _ _ h.made_are)
    (by-equation _ _ (rules-made n.op n.size (rules_in lefts) (rules_in rights)
    ∙ ap (λ z. made (way n.op n.size) z (without_ids (rules_in rights))) (without-held lefts)
    ∙ ap (λ z. made (way n.op n.size) (rules_held lefts) z) (without-held rights)))

-- the rules at the root are those from scratch
pub from-scratch : (sizes : ℕ → ℕ) (rules : ℕ → List Rule) (t : TreeOf) → IsTree t → IsOf sizes rules t
    → IsPermutation (rules_at t) (rules_of sizes rules (policy_in t))
from-scratch sizes rules (leaf i size made) t f = f.1
from-scratch sizes rules (branch n l r) (tl, tr, b) f =
    let w = way n.op n.size in
    let a = policy_in l in
    let z = policy_in r in
    let same : n.size ≡ size_of sizes z = b.sizes.size ∙ size-is sizes rules r f.1 in
    IsPermutation-trans _ _ _ (node-rules n (made_in l) (made_in r) b.node)
    (IsPermutation-trans _ _ _
    (made-left w (rules_at l) (rules_of sizes rules a) (rules_at r) (from-scratch sizes rules l tl f.0))
    (IsPermutation-trans _ _ _
    (made-right w (rules_of sizes rules a) (rules_at r) (rules_of sizes rules z)
    (from-scratch sizes rules r tr f.1))
    (IsPermutation-trans _ _ _
    (by-equation _ _ (ap (λ (k : ℕ). made (way n.op k) (rules_of sizes rules a) (rules_of sizes rules z)) same))
    (by-operator n.op sizes rules a z b.operator))))

both-members : (op : Op) (P : ℕ → Type 0) (a b : Policy) → EachMember P (composed_by op a b)
    → EachMember P a × EachMember P b
both-members Par P a b e = e
both-members Seq P a b e = e
both-members Over P a b e = e
both-members Hop P a b e = e

-- where no member's rules change, the tree stays that of them
pub stays-of : (sizes sizes' : ℕ → ℕ) (rules rules' : ℕ → List Rule) (t : TreeOf) → ((i : ℕ) → sizes' i ≡ sizes i)
    → EachMember (λ i. rules' i ≡ rules i) (policy_in t) → IsOf sizes rules t → IsOf sizes' rules' t
stays-of sizes sizes' rules rules' (leaf i size made) s e f =
    (f.0 ∙ sym (s i), subst (λ (z : List Rule). IsPermutation (rules_held made) z) (sym e) f.1)
stays-of sizes sizes' rules rules' (branch n l r) s e f =
    let b = both-members n.op (λ i. rules' i ≡ rules i) (policy_in l) (policy_in r) e in
    (stays-of sizes sizes' rules rules' l s b.0 f.0, stays-of sizes sizes' rules rules' r s b.1 f.1)

-- the sizes may be written otherwise
pub sized-of : (sizes sizes' : ℕ → ℕ) (rules : ℕ → List Rule) (t : TreeOf) → ((i : ℕ) → sizes' i ≡ sizes i)
    → IsOf sizes rules t → IsOf sizes' rules t
sized-of sizes sizes' rules (leaf i size made) s f = (f.0 ∙ sym (s i), f.1)
sized-of sizes sizes' rules (branch n l r) s f =
    (sized-of sizes sizes' rules l s f.0, sized-of sizes sizes' rules r s f.1)
