-- The rules of a tree are those of its expression from scratch.
use Rattle.std.proofs.Common.{◌≡◌, ◌≢◌, ℕ, ◌==◌, Bool, true, false, not, cond, ◌||◌, List, [], ◌∷◌, ◌++◌, inl, inr}
use Rattle.std.proofs.Common.{map, refl, sym, ap, subst, ◌∙◌}
use Rattle.std.specs.Prelude.{IsPermutation, filter}
use Rattle.std.specs.List.{AllByRecursion, list_any}
use Rattle.std.proofs.lemmas.Bool.{cases_eq}
use Rattle.std.proofs.lemmas.List.{map-append}
use Rattle.std.proofs.lemmas.List.Sorted.{IsPermutation-append_right, IsPermutation-map, IsPermutation-trans}
use Rattle.list_change.specs.Pairing.{made}
use Rattle.list_change.proofs.Kept.{permuted-filter}
use Rattle.list_change.proofs.Permute.{by-equation}
use Rattle.cv_io.specs.declared.leaf.Leaf.{Leaf}
use Rattle.op_compose.specs.declared.op.Op.{Op}
use Rattle.op_compose.specs.declared.op.Op.TheVariants.{Par, Seq, Over, Hop}
use Rattle.policy_expr.specs.Policy.{Policy, member}
use Rattle.policy_expr.specs.Sizes.{size_of}
use Rattle.policy_meaning.specs.Rules.{rules_of}
use Rattle.policy_meaning.specs.declared.rule.Rule.{Rule}
use Rattle.rule_ancestry.specs.Holding.{Held, item_of}
use Rattle.rule_ancestry.proofs.StoreLemmas.{eq-other, eq-same}
use Rattle.made_rules.specs.Rules.{is_one_of, rule_of, rules_in}
use Rattle.made_rules.specs.declared.made.Made.{Made}
use Rattle.made_rules.specs.declared.made.Origin.TheVariants.{Leaf as OfLeaf}
use Rattle.incr_compile.specs.Compiling.{Asks, IsOf, MemberChanges, composed_by, is_apart_from, policy_in}
use Rattle.incr_compile.specs.Compiling.{rules_after, rules_at, rules_held, same_leaf}
use Rattle.incr_compile.specs.Nodes.{NodeOf, made_by, whole_size}
use Rattle.incr_compile.specs.Trees.{Changes, IsMemberRule, IsTree, TreeOf, branch, changed_by, leaf, made_in}
use Rattle.incr_compile.specs.Trees.{tree_size}
use Rattle.incr_compile.specs.Ways.{is_not_of, way, without_ids}
use Rattle.incr_compile.specs.declared.compiled.LeafDelta.{LeafDelta}
use Rattle.incr_compile.specs.declared.tree.MemberChange.{MemberChange}
use Rattle.incr_compile.proofs.Bridge.{made-chains, made-shifts, made-sums, rules-made}
use Rattle.incr_compile.proofs.TreeLemmas.{made-left, made-right}

pub without-held : (hs : List (Held Made)) → without_ids (rules_in hs) ≡ rules_held hs
without-held [] = refl
without-held (h ∷ hs) = ap (λ z. h.item.rule ∷ z) (without-held hs)

-- the levels of a tree are those of its expression
pub whole-of : (op : Op) (sizes : ℕ → ℕ) (a b : Policy)
    → size_of sizes (composed_by op a b) ≡ whole_size op (size_of sizes a) (size_of sizes b)
whole-of Par sizes a b = refl
whole-of Seq sizes a b = refl
whole-of Over sizes a b = refl
whole-of Hop sizes a b = refl

pub size-is : (sizes : ℕ → ℕ) (rules : ℕ → List Rule) (t : TreeOf) → IsOf sizes rules t
    → tree_size t ≡ size_of sizes (policy_in t)
size-is sizes rules (leaf i size made) f = f.0
size-is sizes rules (branch n l r) f =
    ap (λ (k : ℕ). whole_size n.op k (tree_size r)) (size-is sizes rules l f.0)
    ∙ ap (λ (k : ℕ). whole_size n.op (size_of sizes (policy_in l)) k) (size-is sizes rules r f.1)
    ∙ sym (whole-of n.op sizes (policy_in l) (policy_in r))

by-operator : (op : Op) (sizes : ℕ → ℕ) (rules : ℕ → List Rule) (a b : Policy) → op ≢ Hop →
    IsPermutation (made (way op (size_of sizes b)) (rules_of sizes rules a) (rules_of sizes rules b))
    (rules_of sizes rules (composed_by op a b))
by-operator Par sizes rules a b h =
    by-equation _ _ (made-sums (size_of sizes b) (rules_of sizes rules a) (rules_of sizes rules b))
by-operator Seq sizes rules a b h = made-chains (size_of sizes b) (rules_of sizes rules a) (rules_of sizes rules b)
by-operator Over sizes rules a b h =
    by-equation _ _ (made-shifts (size_of sizes b) (rules_of sizes rules a) (rules_of sizes rules b))
by-operator Hop sizes rules a b h = absurd (h refl)

node-rules : (n : NodeOf) (held lefts rights : List (Held Made))
    → IsPermutation (map item_of held) (made_by n (rules_in lefts) (rules_in rights))
    → IsPermutation (rules_held held) (made (way n.op n.size) (rules_held lefts) (rules_held rights))
node-rules n held lefts rights h =
    IsPermutation-trans _ _ _ (IsPermutation-map rule_of _ _ h)
    (by-equation _ _ (rules-made n.op n.size (rules_in lefts) (rules_in rights)
    ∙ ap (λ z. made (way n.op n.size) z (without_ids (rules_in rights))) (without-held lefts)
    ∙ ap (λ z. made (way n.op n.size) (rules_held lefts) z) (without-held rights)))

-- the rules that a node makes of operands from scratch are those from scratch
pub over-scratch : (sizes : ℕ → ℕ) (rules : ℕ → List Rule) (n : NodeOf) (held lefts rights : List (Held Made))
    (a z : Policy) → n.op ≢ Hop → n.size ≡ size_of sizes z
    → IsPermutation (map item_of held) (made_by n (rules_in lefts) (rules_in rights)) →
    IsPermutation (rules_held lefts) (rules_of sizes rules a)
    → IsPermutation (rules_held rights) (rules_of sizes rules z)
    → IsPermutation (rules_held held) (rules_of sizes rules (composed_by n.op a z))
over-scratch sizes rules n held lefts rights a z h same m p q =
    let w = way n.op n.size in
    IsPermutation-trans _ _ _ (node-rules n held lefts rights m)
    (IsPermutation-trans _ _ _ (made-left w (rules_held lefts) (rules_of sizes rules a) (rules_held rights) p)
    (IsPermutation-trans _ _ _ (made-right w (rules_of sizes rules a) (rules_held rights) (rules_of sizes rules z) q)
    (IsPermutation-trans _ _ _
    (by-equation _ _ (ap (λ (k : ℕ). made (way n.op k) (rules_of sizes rules a) (rules_of sizes rules z)) same))
    (by-operator n.op sizes rules a z h))))

-- the rules at the root are those from scratch
pub from-scratch : (sizes : ℕ → ℕ) (rules : ℕ → List Rule) (t : TreeOf) → IsTree t → IsOf sizes rules t
    → IsPermutation (rules_at t) (rules_of sizes rules (policy_in t))
from-scratch sizes rules (leaf i size made) t f = f.1
from-scratch sizes rules (branch n l r) (tl, tr, b) f =
    over-scratch sizes rules n n.made (made_in l) (made_in r) (policy_in l) (policy_in r) b.operator
    (b.sizes.size ∙ size-is sizes rules r f.1) b.node.made_are
    (from-scratch sizes rules l tl f.0) (from-scratch sizes rules r tr f.1)

-- ---- one member's rules change
pub same-policy : (asked : MemberChange) (t u : TreeOf) → Changes asked t u → policy_in u ≡ policy_in t
same-policy asked (leaf i s before) (leaf j k after) c = ap member c.0
same-policy asked (branch n l r) (branch m l' r') c =
    ap (λ (o : Op). composed_by o (policy_in l') (policy_in r')) c.0
    ∙ ap (λ p. composed_by n.op p (policy_in r')) (same-policy asked l l' c.2)
    ∙ ap (λ p. composed_by n.op (policy_in l) p) (same-policy asked r r' c.3)
same-policy asked (leaf i s before) (branch m l' r') c = absurd c
same-policy asked (branch n l r) (leaf j k after) c = absurd c

same-origin : (leaves : List Leaf) (l : Leaf)
    → is_one_of (map (λ m. OfLeaf m) leaves) (OfLeaf l) ≡ list_any (same_leaf l) leaves
same-origin [] l = refl
same-origin (m ∷ leaves) l = ap (λ b. same_leaf l m || b) (same-origin leaves l)

any-origin : (leaves ancestry : List Leaf)
    → list_any (is_one_of (map (λ m. OfLeaf m) leaves)) (map (λ m. OfLeaf m) ancestry)
    ≡ list_any (λ l. list_any (same_leaf l) leaves) ancestry
any-origin leaves [] = refl
any-origin leaves (l ∷ ancestry) =
    ap (λ b. b || list_any (is_one_of (map (λ m. OfLeaf m) leaves)) (map (λ m. OfLeaf m) ancestry))
    (same-origin leaves l) ∙ ap (λ b. list_any (same_leaf l) leaves || b) (any-origin leaves ancestry)

apart-rule : (leaves : List Leaf) (size : ℕ) (m : Made) → IsMemberRule size m
    → is_not_of (map (λ l. OfLeaf l) leaves) m ≡ is_apart_from leaves m.rule
apart-rule leaves size m f = ap (λ z. not (list_any (is_one_of (map (λ l. OfLeaf l) leaves)) z)) f.origins
    ∙ ap not (any-origin leaves m.rule.ancestry)

kept-rules : (leaves : List Leaf) (size : ℕ) (hs : List (Held Made))
    → AllByRecursion (λ (h : Held Made). IsMemberRule size h.item) hs →
    map rule_of (filter (is_not_of (map (λ l. OfLeaf l) leaves)) (map item_of hs))
    ≡ filter (is_apart_from leaves) (rules_held hs)
kept-rules leaves size [] a = refl
kept-rules leaves size (h ∷ hs) a =
    ap (λ b. map rule_of (cond b (h.item ∷ rest) rest)) (apart-rule leaves size h.item a.0)
    ∙ at (is_apart_from leaves h.item.rule) rest
    ∙ ap (λ z. cond (is_apart_from leaves h.item.rule) (h.item.rule ∷ z) z) (kept-rules leaves size hs a.1)
  where
    rest : List Made
    rest = filter (is_not_of (map (λ l. OfLeaf l) leaves)) (map item_of hs)

    at : (b : Bool) (ms : List Made)
        → map rule_of (cond b (h.item ∷ ms) ms) ≡ cond b (h.item.rule ∷ map rule_of ms) (map rule_of ms)
    at true ms = refl
    at false ms = refl

pub changed-rules : (delta : LeafDelta) (asked : MemberChange) (size : ℕ) (before after : List (Held Made))
    → Asks delta asked → AllByRecursion (λ (h : Held Made). IsMemberRule size h.item) before →
    IsPermutation (map item_of after) (changed_by asked (map item_of before))
    → IsPermutation (rules_held after) (rules_after delta (rules_held before))
changed-rules delta asked size before after k a p =
    IsPermutation-trans _ _ _ (IsPermutation-map rule_of _ _ p)
    (by-equation _ _ (map-append rule_of asked.come.items (filter (is_not_of asked.gone.items) (map item_of before))
    ∙ ap (λ z. z ++ map rule_of (filter (is_not_of asked.gone.items) (map item_of before))) k.come
    ∙ ap (λ z. delta.come ++ map rule_of (filter (is_not_of z) (map item_of before))) k.gone
    ∙ ap (λ z. delta.come ++ z) (kept-rules delta.gone size before a)))

pub permuted-after : (delta : LeafDelta) (xs ys : List Rule) → IsPermutation xs ys
    → IsPermutation (rules_after delta xs) (rules_after delta ys)
permuted-after delta xs ys p = IsPermutation-append_right delta.come _ _
    (permuted-filter (is_apart_from delta.gone) xs ys p)

pub changed-of : (delta : LeafDelta) (asked : MemberChange) (sizes : ℕ → ℕ) (rules rules' : ℕ → List Rule)
    → Asks delta asked → MemberChanges delta rules rules' →
    (t u : TreeOf) → IsTree t → Changes asked t u → IsOf sizes rules t → IsOf sizes rules' u
changed-of delta asked sizes rules rules' k m (leaf i s before) (leaf j z after) t c f = (
  c.1 ∙ f.0 ∙ ap sizes (sym c.0),
  subst (λ (x : ℕ). IsPermutation (rules_held after) (rules' x)) (sym c.0) (elim (cases_eq i delta.member) [
    | inl e ↦
        let same : (asked.member == i) ≡ true = eq-same asked.member i (e ∙ sym k.member) in
        let p =
        subst (λ b. IsPermutation (map item_of after)
        (cond b (changed_by asked (map item_of before)) (map item_of before))) same c.2 in
        subst (λ (x : ℕ). IsPermutation (rules_held after) (rules' x)) (sym e)
        (IsPermutation-trans _ _ _ (changed-rules delta asked s before after k t.rules p)
        (IsPermutation-trans _ _ _
        (permuted-after delta (rules_held before) (rules delta.member)
        (subst (λ (x : ℕ). IsPermutation (rules_held before) (rules x)) e f.1)) m.changed))
    | inr n ↦
        let other : (asked.member == i) ≡ false = eq-other asked.member i (λ e. n (e ∙ k.member)) in
        let p =
        subst (λ b. IsPermutation (map item_of after)
        (cond b (changed_by asked (map item_of before)) (map item_of before))) other c.2 in
        IsPermutation-trans _ _ _ (IsPermutation-map rule_of _ _ p)
        (subst (λ z. IsPermutation (rules_held before) z) (sym (m.others i n)) f.1)
  ]),
)
changed-of delta asked sizes rules rules' k m (branch n l r) (branch o l' r') (tl, tr, b) c f = (
  changed-of delta asked sizes rules rules' k m l l' tl c.2 f.0,
  changed-of delta asked sizes rules rules' k m r r' tr c.3 f.1,
)
changed-of delta asked sizes rules rules' k m (leaf i s before) (branch o l' r') t c f = absurd c
changed-of delta asked sizes rules rules' k m (branch n l r) (leaf j z after) t c f = absurd c
