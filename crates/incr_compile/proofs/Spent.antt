-- The steps of a change are those for what came, of an expression's rules from scratch.
use Rattle.std.proofs.Common.{◌≡◌, ◌≢◌, ℕ, ◌+◌, ◌≤◌, true, false, cond, List, [], ◌∷◌, ◌++◌, Option, Some, None, map}
use Rattle.std.proofs.Common.{refl, sym, ap, subst, ◌∙◌, arith}
use Rattle.std.specs.Prelude.{IsPermutation, flat_map, slice_get, sum_by}
use Rattle.std.proofs.lemmas.List.Sorted.{IsPermutation-sym, IsPermutation-trans, sum_by-IsPermutation}
use Rattle.std.proofs.lemmas.List.Sums.{sum_by-cons}
use Rattle.list_change.specs.Coming.{came}
use Rattle.list_change.proofs.Came.{came-ordered, what-came}
use Rattle.list_change.proofs.Permute.{by-equation}
use Rattle.op_compose.specs.declared.op.Op.{Op}
use Rattle.op_compose.specs.declared.op.Op.TheVariants.{Par, Seq, Over, Hop}
use Rattle.op_compose.specs.declared.op.Side.{Side}
use Rattle.op_compose.specs.declared.op.Side.TheVariants.{Left, Right}
use Rattle.policy_expr.specs.Policy.{Policy, member, parallel, sequential, override}
use Rattle.policy_expr.specs.Sizes.{size_of}
use Rattle.policy_meaning.specs.Networks.{table_rules, table_size}
use Rattle.policy_meaning.specs.Rules.{chains_with, rules_of, shifts_with, sums_with}
use Rattle.policy_meaning.specs.declared.leaf.LeafTable.{LeafTable}
use Rattle.policy_meaning.specs.declared.rule.Rule.{Rule}
use Rattle.rule_ancestry.specs.Holding.{Held, item_of}
use Rattle.made_rules.specs.Changing.{ChangeOf, IsReady, settled}
use Rattle.made_rules.specs.Coming.{is_rule}
use Rattle.made_rules.specs.Rules.{rule_held, rules_in}
use Rattle.made_rules.specs.declared.made.Made.{Made}
use Rattle.made_rules.proofs.SameRules.{rule_decides}
use Rattle.incr_compile.specs.Candidates.{could_meet, left_cost, right_cost}
use Rattle.incr_compile.specs.Compiling.{Asks, IsBuilt, IsOf, MemberChanges, composed_by, policy_in, rules_at}
use Rattle.incr_compile.specs.Compiling.{rules_held}
use Rattle.incr_compile.specs.Costs.{come_to, left_steps, right_steps, steps_at, steps_from_scratch, steps_of}
use Rattle.incr_compile.specs.Nodes.{IsCarried, LeftChanges, NodeOf, RightChanges}
use Rattle.incr_compile.specs.Trees.{CanChange, Follows, FollowsBy, IsReadyIn, IsTree, TreeOf, branch, changed_by}
use Rattle.incr_compile.specs.Trees.{has_member, leaf, made_in, tree_of}
use Rattle.incr_compile.specs.declared.compiled.LeafDelta.{LeafDelta}
use Rattle.incr_compile.specs.declared.node.Below.{Below}
use Rattle.incr_compile.specs.declared.node.Node.{Node}
use Rattle.incr_compile.specs.declared.tree.MemberChange.{MemberChange}
use Rattle.incr_compile.specs.declared.tree.Tree.{Tree}
use Rattle.incr_compile.specs.declared.tree.Tree.TheVariants.{Member, Operator'}
use Rattle.incr_compile.proofs.Scratch.{changed-of, changed-rules, from-scratch, over-scratch, permuted-after, size-is}
use Rattle.incr_compile.proofs.Told.{told-apart, told-changed}
use Rattle.incr_compile.proofs.TreeLemmas.{can-left, can-right, left-absent, unchanged}
use Rattle.incr_compile.proofs.TreeSteps.{only-left, only-right}

-- ---- steps over rules without their ids
sum-rules : (f : Rule → ℕ) (hs : List (Held Made))
    → sum_by (λ (h : Held Rule). f h.item) (rules_in hs) ≡ sum_by f (rules_held hs)
sum-rules f [] = refl
sum-rules f (h ∷ hs) =
    sum_by-cons (λ (h : Held Rule). f h.item) (rule_held h) (rules_in hs)
    ∙ (ap (λ (k : ℕ). f h.item.rule + k) (sum-rules f hs) ∙ sym (sum_by-cons f h.item.rule (rules_held hs)))

same-sums : (f g : Rule → ℕ) → ((x : Rule) → f x ≡ g x) → (xs : List Rule) → sum_by f xs ≡ sum_by g xs
same-sums f g e [] = refl
same-sums f g e (x ∷ xs) =
    sum_by-cons f x xs ∙ (ap (λ (k : ℕ). k + sum_by f xs) (e x)
    ∙ (ap (λ (k : ℕ). g x + k) (same-sums f g e xs) ∙ sym (sum_by-cons g x xs)))

module _ (op : Op) where
  pub left-cost : (rights come : List (Held Made))
      → left_cost op (rules_in rights) (rules_in come) ≡ left_steps op (rules_held rights) (rules_held come)
  left-cost rights come =
      sum-rules (λ (a : Rule). 1 + sum_by (λ (b : Held Rule). cond (could_meet op a b.item) 1 0) (rules_in rights)) come
      ∙ same-sums _ _ (λ a. ap (λ (k : ℕ). 1 + k) (sum-rules (λ (b : Rule). cond (could_meet op a b) 1 0) rights))
      (rules_held come)

  pub right-cost : (lefts come : List (Held Made))
      → right_cost op (rules_in lefts) (rules_in come) ≡ right_steps op (rules_held lefts) (rules_held come)
  right-cost lefts come =
      sum-rules (λ (b : Rule). 1 + sum_by (λ (a : Held Rule). cond (could_meet op a.item b) 1 0) (rules_in lefts)) come
      ∙ same-sums _ _ (λ b. ap (λ (k : ℕ). 1 + k) (sum-rules (λ (a : Rule). cond (could_meet op a b) 1 0) lefts))
      (rules_held come)

  pub left-same : (rights rights' come come' : List Rule) → IsPermutation rights rights' → IsPermutation come come'
      → left_steps op rights come ≡ left_steps op rights' come'
  left-same rights rights' come come' p q =
      same-sums _ _
      (λ a. ap (λ (k : ℕ). 1 + k)
      (sym (sum_by-IsPermutation (λ (b : Rule). cond (could_meet op a b) 1 0) rights rights' p))) come
      ∙ sym (sum_by-IsPermutation (λ (a : Rule). 1 + sum_by (λ (b : Rule). cond (could_meet op a b) 1 0) rights') come
      come' q)

  pub right-same : (lefts lefts' come come' : List Rule) → IsPermutation lefts lefts' → IsPermutation come come'
      → right_steps op lefts come ≡ right_steps op lefts' come'
  right-same lefts lefts' come come' p q =
      same-sums _ _
      (λ b. ap (λ (k : ℕ). 1 + k)
      (sym (sum_by-IsPermutation (λ (a : Rule). cond (could_meet op a b) 1 0) lefts lefts' p))) come
      ∙ sym (sum_by-IsPermutation (λ (b : Rule). 1 + sum_by (λ (a : Rule). cond (could_meet op a b) 1 0) lefts') come
      come' q)

-- ---- the steps of an operator's expression
over-steps : (sizes : ℕ → ℕ) (before after : ℕ → List Rule) (op : Op) (a b : Policy) → op ≢ Hop →
    steps_of sizes before after (composed_by op a b)
    ≡ (steps_of sizes before after a + steps_of sizes before after b) + steps_at sizes before after op a b
over-steps sizes before after Par a b h = refl
over-steps sizes before after Seq a b h = refl
over-steps sizes before after Over a b h = refl
over-steps sizes before after Hop a b h = absurd (h refl)

first-part : (s0 s1 s2 a b c d k : ℕ) → s1 ≤ s0 + a → s2 ≤ s1 + c → k ≡ (a + b) + (c + d) → s2 ≤ s0 + k
first-part s0 s1 s2 a b c d k p q e = omega arith

second-part : (s0 s1 s2 a b c d k : ℕ) → s1 ≤ s0 + b → s2 ≤ s1 + d → k ≡ (a + b) + (c + d) → s2 ≤ s0 + k
second-part s0 s1 s2 a b c d k p q e = omega arith

first-alone : (s0 s1 a b c k : ℕ) → s1 ≤ s0 + a → k ≡ (a + b) + c → s1 ≤ s0 + k
first-alone s0 s1 a b c k p e = omega arith

second-alone : (s0 s1 a b c k : ℕ) → s1 ≤ s0 + b → k ≡ (a + b) + c → s1 ≤ s0 + k
second-alone s0 s1 a b c k p e = omega arith

module _ (delta : LeafDelta) (asked : MemberChange) (sizes : ℕ → ℕ) (rules rules' : ℕ
    → List Rule) (k : Asks delta asked) (m : MemberChanges delta rules rules') where
  -- ---- the rules of a tree in which a change is ready are those from scratch after it
  other-scratch : (t : TreeOf) → IsTree t → has_member asked.member t ≡ false → IsOf sizes rules t
      → IsPermutation (rules_at t) (rules_of sizes rules' (policy_in t))
  other-scratch t is a o = from-scratch sizes rules' t is
      (changed-of delta asked sizes rules rules' k m t t is (unchanged asked t a) o)

  abbrev Follows-scratch : TreeOf → Tree → Type 0
  Follows-scratch t now = (change : ChangeOf) (mid : List (Held Made)) → CanChange asked t
      → IsReadyIn asked t now change mid → IsOf sizes rules t
      → IsPermutation (rules_held mid) (rules_of sizes rules' (policy_in t))

  leaf-scratch : (i s : ℕ) (before now mid : List (Held Made)) (change : ChangeOf) → CanChange asked (leaf i s before)
      → i ≡ asked.member → IsCarried before now mid change (changed_by asked (map item_of before))
      → IsOf sizes rules (leaf i s before) →
      IsPermutation (rules_held mid) (rules' i)
  leaf-scratch i s before now mid change can e c o =
      let is : i ≡ delta.member = e ∙ k.member in
      subst (λ (x : ℕ). IsPermutation (rules_held mid) (rules' x)) (sym is)
      (IsPermutation-trans _ _ _ (changed-rules delta asked s before mid k can.is_tree.rules c.made_are)
      (IsPermutation-trans _ _ _
      (permuted-after delta (rules_held before) (rules delta.member)
      (subst (λ (x : ℕ). IsPermutation (rules_held before) (rules x)) is o.1)) m.changed))

  branch-scratch : (n : NodeOf) (node : Node) (l r : TreeOf) (l' r' : Tree) → Follows-scratch l l'
      → Follows-scratch r r' → (o : Option Below) (change : ChangeOf) (mid : List (Held Made))
      → CanChange asked (branch n l r) →
      Follows (IsReadyIn asked l l') (IsReadyIn asked r r') asked n node l r (tree_of l') (tree_of r') o change mid
      → IsOf sizes rules (branch n l r)
      → IsPermutation (rules_held mid) (rules_of sizes rules' (policy_in (branch n l r)))
  branch-scratch n node l r l' r' p q None change mid can f o = absurd f
  branch-scratch n node l r l' r' p q (Some b) change mid can f o = by b.side f
    where
      size : n.size ≡ size_of sizes (policy_in r)
      size = can.is_tree.2.sizes.size ∙ size-is sizes rules r o.1

      by : (s : Side)
          → FollowsBy (IsReadyIn asked l l') (IsReadyIn asked r r') asked n node l r (tree_of l') (tree_of r') s
          b.change change mid → IsPermutation (rules_held mid) (rules_of sizes rules' (policy_in (branch n l r)))
      by Left g =
          over-scratch sizes rules' n mid g.mid (made_in r) (policy_in l) (policy_in r) can.is_tree.2.operator size
          g.carried.made_are
          (p b.change g.mid (only-left asked n l r can g.absent) g.changes o.0)
          (other-scratch r can.is_tree.1 g.absent o.1)
      by Right g =
          over-scratch sizes rules' n mid (made_in l) g.mid (policy_in l) (policy_in r) can.is_tree.2.operator size
          g.carried.made_are
          (other-scratch l can.is_tree.0 g.absent o.0)
          (q b.change g.mid (only-right asked n l r can g.absent) g.changes o.1)

  ready-scratch : (t : TreeOf) (now : Tree) → Follows-scratch t now
  ready-scratch (leaf i s before) (Member j u now) change mid can f o =
      leaf-scratch i s before now mid change can f.2 f.3 o
  ready-scratch (branch n l r) (Operator' node p l' q r') change mid can f o =
      branch-scratch n node l r l' r' (ready-scratch l l') (ready-scratch r r') node.below change mid can f o
  ready-scratch (leaf i s before) (Operator' node p l' q r') change mid can f o = absurd f
  ready-scratch (branch n l r) (Member j u now) change mid can f o = absurd f

  -- ---- what comes to an operand
  come-is : (before now mid : List (Held Made)) (lost : List ℕ) (fresh : List Made) (change : ChangeOf)
      (r : IsReady before now lost fresh change) → mid ≡ settled r → (e : Policy)
      → IsPermutation (rules_held before) (rules_of sizes rules e) →
      IsPermutation (rules_held mid) (rules_of sizes rules' e)
      → IsPermutation (rules_held r.coming) (come_to sizes rules rules' e)
  come-is before now mid lost fresh change r is e p q =
      IsPermutation-trans _ _ _
      (IsPermutation-sym _ _
      (what-came is_rule rule_decides (rules_held before) (rules_held mid) (rules_held r.going) (rules_held r.coming)
      (told-changed before now lost fresh change r mid (rules_held r.going) (rules_held r.coming) (by-equation _ _ is)
      refl refl)
      (told-apart before now lost fresh change r (rules_held r.going) (rules_held r.coming) refl refl)))
      (came-ordered is_rule rule_decides (rules_held before) (rules_of sizes rules e) (rules_held mid)
      (rules_of sizes rules' e) p q)

  module _ (n : NodeOf) (l r : TreeOf) (can : CanChange asked (branch n l r)) (o : IsOf sizes rules (branch n l r))
    where
      whole : steps_of sizes rules rules' (policy_in (branch n l r))
          ≡ (steps_of sizes rules rules' (policy_in l) + steps_of sizes rules rules' (policy_in r)) + steps_at sizes
          rules
          rules' n.op (policy_in l) (policy_in r)
      whole = over-steps sizes rules rules' n.op (policy_in l) (policy_in r) can.is_tree.2.operator

      -- where there was no memory below
      pub left-stopped : (t : TreeOf) → t ≡ l → (s0 s1 : ℕ) → s1 ≤ s0 + steps_of sizes rules rules' (policy_in t)
          → s1 ≤ s0 + steps_of sizes rules rules' (policy_in (branch n l r))
      left-stopped t e s0 s1 p =
          first-alone s0 s1 (steps_of sizes rules rules' (policy_in l)) (steps_of sizes rules rules' (policy_in r))
          (steps_at sizes rules rules' n.op (policy_in l) (policy_in r)) _
          (subst (λ (z : TreeOf). s1 ≤ s0 + steps_of sizes rules rules' (policy_in z)) e p) whole

      pub right-stopped : (t : TreeOf) → t ≡ r → (s0 s1 : ℕ) → s1 ≤ s0 + steps_of sizes rules rules' (policy_in t)
          → s1 ≤ s0 + steps_of sizes rules rules' (policy_in (branch n l r))
      right-stopped t e s0 s1 p =
          second-alone s0 s1 (steps_of sizes rules rules' (policy_in l)) (steps_of sizes rules rules' (policy_in r))
          (steps_at sizes rules rules' n.op (policy_in l) (policy_in r)) _
          (subst (λ (z : TreeOf). s1 ≤ s0 + steps_of sizes rules rules' (policy_in z)) e p) whole

      -- below the node, and at it
      pub left-spent : (r' : TreeOf) (old now : Tree) (below : ChangeOf) → has_member asked.member l ≡ true
          → tree_of old ≡ l → r' ≡ r → (mid : List (Held Made)) → IsReadyIn asked (tree_of old) now below mid →
          (g : LeftChanges n (made_in l) (made_in (tree_of now)) mid (made_in r') below) → (s0 s1 s2 : ℕ)
          → s1 ≤ s0 + steps_of sizes rules rules' (policy_in (tree_of old)) →
          s2 ≤ s1 + left_cost n.op (rules_in (made_in r')) (rules_in g.ready.coming)
          → s2 ≤ s0 + steps_of sizes rules rules' (policy_in (branch n l r))
      left-spent r' old now below has is other mid f g s0 s1 s2 p q =
          let come = come-is (made_in l) (made_in (tree_of now)) mid g.lost g.fresh below g.ready g.after_is
          (policy_in l)
          (from-scratch sizes rules l can.is_tree.0 o.0)
          (ready-scratch l now below mid (can-left asked n l r can has)
          (subst (λ (z : TreeOf). IsReadyIn asked z now below mid) is f) o.0) in
          let rest = subst (λ (z : TreeOf). IsPermutation (rules_at z) (rules_of sizes rules' (policy_in r)))
          (sym other)
          (other-scratch r can.is_tree.1 (left-absent asked n l r can has) o.1) in
          let same = left-cost n.op (made_in r') g.ready.coming
          ∙ left-same n.op (rules_at r') (rules_of sizes rules' (policy_in r)) (rules_held g.ready.coming)
          (come_to sizes rules rules' (policy_in l)) rest come in
          first-part s0 s1 s2 (steps_of sizes rules rules' (policy_in l)) (steps_of sizes rules rules' (policy_in r))
          (left_steps n.op (rules_of sizes rules' (policy_in r)) (come_to sizes rules rules' (policy_in l)))
          (right_steps n.op (rules_of sizes rules' (policy_in l)) (come_to sizes rules rules' (policy_in r))) _
          (subst (λ (z : TreeOf). s1 ≤ s0 + steps_of sizes rules rules' (policy_in z)) is p)
          (subst (λ (x : ℕ). s2 ≤ s1 + x) same q) whole

      pub right-spent : (l' : TreeOf) (old now : Tree) (below : ChangeOf) → has_member asked.member l ≡ false
          → tree_of old ≡ r → l' ≡ l → (mid : List (Held Made)) → IsReadyIn asked (tree_of old) now below mid →
          (g : RightChanges n (made_in r) (made_in (tree_of now)) mid (made_in l') below) → (s0 s1 s2 : ℕ)
          → s1 ≤ s0 + steps_of sizes rules rules' (policy_in (tree_of old)) →
          s2 ≤ s1 + right_cost n.op (rules_in (made_in l')) (rules_in g.ready.coming)
          → s2 ≤ s0 + steps_of sizes rules rules' (policy_in (branch n l r))
      right-spent l' old now below has is other mid f g s0 s1 s2 p q =
          let come = come-is (made_in r) (made_in (tree_of now)) mid g.lost g.fresh below g.ready g.after_is
          (policy_in r)
          (from-scratch sizes rules r can.is_tree.1 o.1)
          (ready-scratch r now below mid (can-right asked n l r can has)
          (subst (λ (z : TreeOf). IsReadyIn asked z now below mid) is f) o.1) in
          let rest = subst (λ (z : TreeOf). IsPermutation (rules_at z) (rules_of sizes rules' (policy_in l)))
          (sym other)
          (other-scratch l can.is_tree.0 has o.0) in
          let same = right-cost n.op (made_in l') g.ready.coming
          ∙ right-same n.op (rules_at l') (rules_of sizes rules' (policy_in l)) (rules_held g.ready.coming)
          (come_to sizes rules rules' (policy_in r)) rest come in
          second-part s0 s1 s2 (steps_of sizes rules rules' (policy_in l)) (steps_of sizes rules rules' (policy_in r))
          (left_steps n.op (rules_of sizes rules' (policy_in r)) (come_to sizes rules rules' (policy_in l)))
          (right_steps n.op (rules_of sizes rules' (policy_in l)) (come_to sizes rules rules' (policy_in r))) _
          (subst (λ (z : TreeOf). s1 ≤ s0 + steps_of sizes rules rules' (policy_in z)) is p)
          (subst (λ (x : ℕ). s2 ≤ s1 + x) same q) whole

-- ---- from scratch, each rule comes
none-before : (sizes : ℕ → ℕ) (e : Policy) → rules_of sizes (λ i. []) e ≡ []
none-before sizes (member i) = refl
none-before sizes (parallel a b) = ap (flat_map (sums_with (rules_of sizes (λ i. []) b))) (none-before sizes a)
none-before sizes (sequential a b) = ap (flat_map (chains_with (size_of sizes b) (rules_of sizes (λ i. []) b)))
    (none-before sizes a)
none-before sizes (override a b) =
    ap (λ (z : List Rule). flat_map (shifts_with (size_of sizes b)) z ++ rules_of sizes (λ i. []) b)
    (none-before sizes a) ∙ none-before sizes b

all-come : (sizes : ℕ → ℕ) (rules : ℕ → List Rule) (e : Policy)
    → come_to sizes (λ i. []) rules e ≡ rules_of sizes rules e
all-come sizes rules e = ap (λ (z : List Rule). came is_rule z (rules_of sizes rules e)) (none-before sizes e)

built-part : (s0 s1 s2 s3 a b c d c' d' k : ℕ) → s1 ≤ s0 + a → s2 ≤ s1 + b → s3 ≤ s2 + (c + d) → c ≡ c' → d ≡ d'
    → k ≡ (a + b) + (c' + d') → s3 ≤ s0 + k
built-part s0 s1 s2 s3 a b c d c' d' k p q r e f g = omega arith

stopped-part : (s0 s1 s2 a b c k : ℕ) → s1 ≤ s0 + a → s2 ≤ s1 + b → k ≡ (a + b) + c → s2 ≤ s0 + k
stopped-part s0 s1 s2 a b c k p q e = omega arith

module _ (tables : List LeafTable) (ports : List ℕ) (op : Op) (a b : Policy) (h : op ≢ Hop) (e : Policy)
    (is : e ≡ composed_by op a b) where
  scratch-whole : steps_from_scratch tables ports e ≡ steps_from_scratch tables ports (composed_by op a b)
  scratch-whole = ap (λ z. steps_from_scratch tables ports z) is

  pub first-stopped : (s0 s1 : ℕ) → s1 ≤ s0 + steps_from_scratch tables ports a
      → s1 ≤ s0 + steps_from_scratch tables ports e
  first-stopped s0 s1 p = first-alone s0 s1 (steps_from_scratch tables ports a) (steps_from_scratch tables ports b)
      (steps_at (λ i. table_size (slice_get tables i)) (λ i. []) (λ i. table_rules ports (slice_get tables i)) op a b)
      (steps_from_scratch tables ports e) p
      (scratch-whole ∙ over-steps (λ i. table_size (slice_get tables i)) (λ i. [])
      (λ i. table_rules ports (slice_get tables i)) op a b h)

  pub second-stopped : (s0 s1 s2 : ℕ) → s1 ≤ s0 + steps_from_scratch tables ports a
      → s2 ≤ s1 + steps_from_scratch tables ports b → s2 ≤ s0 + steps_from_scratch tables ports e
  second-stopped s0 s1 s2 p q = stopped-part s0 s1 s2 (steps_from_scratch tables ports a)
      (steps_from_scratch tables ports b)
      (steps_at (λ i. table_size (slice_get tables i)) (λ i. []) (λ i. table_rules ports (slice_get tables i)) op a b)
      (steps_from_scratch tables ports e) p q
      (scratch-whole ∙ over-steps (λ i. table_size (slice_get tables i)) (λ i. [])
      (λ i. table_rules ports (slice_get tables i)) op a b h)

  pub built-spent : (l r : TreeOf) → IsBuilt tables ports a l → IsBuilt tables ports b r → (s0 s1 s2 s3 : ℕ)
      → s1 ≤ s0 + steps_from_scratch tables ports a → s2 ≤ s1 + steps_from_scratch tables ports b →
      s3 ≤ s2 + (left_cost op (rules_in (made_in r)) (rules_in (made_in l)) + right_cost op (rules_in (made_in l))
      (rules_in (made_in r))) → s3 ≤ s0 + steps_from_scratch tables ports e
  built-spent l r f g s0 s1 s2 s3 p q t =
      let sizes : ℕ → ℕ = λ i. table_size (slice_get tables i) in
      let rules : ℕ → List Rule = λ i. table_rules ports (slice_get tables i) in
      let lefts = subst (λ z. IsPermutation (rules_at l) (rules_of sizes rules z)) f.policy
      (from-scratch sizes rules l f.is_tree f.tables_are) in
      let rights = subst (λ z. IsPermutation (rules_at r) (rules_of sizes rules z)) g.policy
      (from-scratch sizes rules r g.is_tree g.tables_are) in
      let come = IsPermutation-trans _ _ _ lefts (by-equation _ _ (sym (all-come sizes rules a))) in
      let come' = IsPermutation-trans _ _ _ rights (by-equation _ _ (sym (all-come sizes rules b))) in
      built-part s0 s1 s2 s3 (steps_from_scratch tables ports a) (steps_from_scratch tables ports b)
      (left_cost op (rules_in (made_in r)) (rules_in (made_in l)))
      (right_cost op (rules_in (made_in l)) (rules_in (made_in r)))
      (left_steps op (rules_of sizes rules b) (come_to sizes (λ i. []) rules a))
      (right_steps op (rules_of sizes rules a) (come_to sizes (λ i. []) rules b))
      (steps_from_scratch tables ports e) p q t
      (left-cost op (made_in r) (made_in l)
      ∙ left-same op (rules_at r) (rules_of sizes rules b) (rules_at l) (come_to sizes (λ i. []) rules a) rights
      come)
      (right-cost op (made_in l) (made_in r)
      ∙ right-same op (rules_at l) (rules_of sizes rules a) (rules_at r) (come_to sizes (λ i. []) rules b) lefts
      come')
      (scratch-whole ∙ over-steps sizes (λ i. []) rules op a b h)
