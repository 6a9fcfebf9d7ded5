-- A tree in which a change is ready, and what it is once it is settled.
use Rattle.std.proofs.Common.{◌≡◌, ℕ, ◌<◌, ◌≤◌, ◌^◌, Bool, true, false, cond, ◌||◌, List, [], ◌∷◌, Option, Some, None}
use Rattle.std.proofs.Common.{length, map, refl, sym, ap, subst, ◌∙◌}
use Rattle.std.specs.Prelude.{IsPermutation, filter, filter_map}
use Rattle.std.specs.List.{AllByRecursion}
use Rattle.std.proofs.lemmas.List.Sorted.{IsPermutation-append_left, IsPermutation-append_right, IsPermutation-append}
use Rattle.std.proofs.lemmas.List.Sorted.{IsPermutation-map, IsPermutation-sym, IsPermutation-trans}
use Rattle.list_change.specs.Pairing.{Way, made}
use Rattle.list_change.proofs.PairLemmas.{by_left-permuted, pairs-right_permuted}
use Rattle.list_change.proofs.Permute.{by-equation, permuted-filter_map}
use Rattle.match_index.specs.declared.item.Item.{Item}
use Rattle.op_compose.specs.declared.op.Op.{Op}
use Rattle.op_compose.specs.declared.op.Side.{Side}
use Rattle.op_compose.specs.declared.op.Side.TheVariants.{Left, Right}
use Rattle.policy_meaning.proofs.Lists.{all-append}
use Rattle.policy_meaning.proofs.Rising.{all-permuted}
use Rattle.rule_ancestry.specs.Holding.{Held, item_of}
use Rattle.rule_ancestry.proofs.StoreLemmas.{eq-same}
use Rattle.made_rules.specs.Changing.{AreWide, ChangeOf, IsReady, settled}
use Rattle.made_rules.specs.Rules.{rule_held, rules_in}
use Rattle.made_rules.specs.declared.made.Made.{Made}
use Rattle.incr_compile.specs.Candidates.{asked as asks, reach, shown}
use Rattle.incr_compile.specs.Nodes.{AreFit, IsCarried, LeftChanges, NodeOf, RightChanges, made_by, node_of, whole_size}
use Rattle.incr_compile.specs.Trees.{CanChange, Changes, ComesFit, Follows, FollowsBy, FollowsLeft, FollowsRight}
use Rattle.incr_compile.specs.Trees.{IsBranch, IsMemberRule, IsReadyIn, IsSettled, IsTree, TreeOf, branch, changed_by}
use Rattle.incr_compile.specs.Trees.{has_member, leaf, made_in, tree_of, tree_size}
use Rattle.incr_compile.specs.Ways.{held_way, is_not_of}
use Rattle.incr_compile.specs.declared.node.Below.{Below}
use Rattle.incr_compile.specs.declared.node.Node.{Node}
use Rattle.incr_compile.specs.declared.tree.MemberChange.{MemberChange}
use Rattle.incr_compile.specs.declared.tree.Tree.{Tree}
use Rattle.incr_compile.specs.declared.tree.Tree.TheVariants.{Member, Operator'}
use Rattle.incr_compile.proofs.Fits.{node-fit}

-- ---- permutations of operands
pub made-left : {A B C : Type 0} (w : Way A B C) (xs zs : List A) (ys : List B) → IsPermutation xs zs
    → IsPermutation (made w xs ys) (made w zs ys)
made-left w xs zs ys p = IsPermutation-append_left (filter_map w.other ys) _ _ (by_left-permuted w xs zs ys p)

pub made-right : {A B C : Type 0} (w : Way A B C) (xs : List A) (ys zs : List B) → IsPermutation ys zs
    → IsPermutation (made w xs ys) (made w xs zs)
made-right w xs ys zs p =
    IsPermutation-append _ _ _ _
    (IsPermutation-append_right (filter_map w.lone xs) _ _ (pairs-right_permuted w.pair xs ys zs p))
    (permuted-filter_map w.other ys zs p)

-- ---- a tree's rules fit
leaf-fit : (size : ℕ) (hs : List (Held Made)) → AllByRecursion (λ (h : Held Made). IsMemberRule size h.item) hs
    → AreFit size (rules_in hs)
leaf-fit size [] a = tt
leaf-fit size (h ∷ hs) a = (a.0.fit, leaf-fit size hs a.1)

pub tree-fit : (t : TreeOf) → IsTree t → AreFit (tree_size t) (rules_in (made_in t))
tree-fit (leaf i size made) t = leaf-fit size made t.rules
tree-fit (branch n l r) (tl, tr, b) =
    node-fit n (tree_size l) (tree_size r) (rules_in (made_in l)) (rules_in (made_in r)) n.made b.sizes b.operator
    (tree-fit l tl) (tree-fit r tr) b.node.made_are

-- ---- the change at a root
pub record RootIsReady (before now : List (Held Made)) (change : ChangeOf) (after : List (Held Made)) : Type 0 where
  pub lost : List ℕ
  pub fresh : List Made
  pub ready : IsReady before now lost fresh change
  pub after_is : after ≡ settled ready

carried-root : (before now after : List (Held Made)) (change : ChangeOf) (makes : List Made)
    → IsCarried before now after change makes → RootIsReady before now change after
carried-root before now after change makes c =
    record { lost = c.lost; fresh = c.fresh; ready = c.ready; after_is = c.after_is }

module _ (p q : ChangeOf → List (Held Made) → Type 0) (asked : MemberChange) (n : NodeOf) (node : Node)
    (l r l' r' : TreeOf) (change : ChangeOf) (after : List (Held Made)) where
  follows-root : (o : Option Below) → Follows p q asked n node l r l' r' o change after
      → RootIsReady n.made node.made change after
  follows-root None f = absurd f
  follows-root (Some b) f = by b.side f
    where
      by : (s : Side) → FollowsBy p q asked n node l r l' r' s b.change change after
          → RootIsReady n.made node.made change after
      by Left g = carried-root n.made node.made after change _ g.carried
      by Right g = carried-root n.made node.made after change _ g.carried

pub root-ready : (asked : MemberChange) (before : TreeOf) (now : Tree) (change : ChangeOf) (after : List (Held Made))
    → IsReadyIn asked before now change after → RootIsReady (made_in before) (made_in (tree_of now)) change after
root-ready asked (leaf i s before) (Member j t now) change after f = carried-root before now after change _ f.3
root-ready asked (branch n l r) (Operator' node p l' q r') change after f =
    follows-root (IsReadyIn asked l l') (IsReadyIn asked r r') asked n node l r (tree_of l') (tree_of r') change after
    node.below f
root-ready asked (leaf i s before) (Operator' node p l' q r') change after f = absurd f
root-ready asked (branch n l r) (Member j t now) change after f = absurd f

pub root-wide : (asked : MemberChange) (before : TreeOf) (now : Tree) (change : ChangeOf) (after : List (Held Made))
    → IsReadyIn asked before now change after → AreWide (made_in (tree_of now)) change.stays
root-wide asked before now change after f = let r = root-ready asked before now change after f in (_, r.ready.is)

-- ---- a member that isn't there
or-first : (a b : Bool) → (a || b) ≡ false → a ≡ false
or-first true b e = e
or-first false b e = refl

or-second : (a b : Bool) → (a || b) ≡ false → b ≡ false
or-second true b e = absurd (cc)
or-second false b e = e

pub or-left : (a b : Bool) → (a || b) ≡ true → a ≡ false → b ≡ true
or-left true b e f = absurd (cc)
or-left false b e f = e

pub unchanged : (asked : MemberChange) (t : TreeOf) → has_member asked.member t ≡ false → Changes asked t t
unchanged asked (leaf i s made) e =
    (refl, refl, by-equation _ _ (ap (λ b. cond b (changed_by asked (map item_of made)) (map item_of made)) (sym e)))
unchanged asked (branch n l r) e = (refl, refl, unchanged asked l (or-first _ _ e), unchanged asked r (or-second _ _ e))

pub same-size : (asked : MemberChange) (t u : TreeOf) → Changes asked t u → tree_size u ≡ tree_size t
same-size asked (leaf i s before) (leaf j t after) c = c.1
same-size asked (branch n l r) (branch m l' r') c =
    ap (λ (o : Op). whole_size o (tree_size l') (tree_size r')) c.0
    ∙ ap (λ (k : ℕ). whole_size n.op k (tree_size r')) (same-size asked l l' c.2)
    ∙ ap (λ (k : ℕ). whole_size n.op (tree_size l) k) (same-size asked r r' c.3)
same-size asked (leaf i s before) (branch m l' r') c = absurd c
same-size asked (branch n l r) (leaf j t after) c = absurd c

-- ---- an operand's change
pub can-left : (asked : MemberChange) (n : NodeOf) (l r : TreeOf) → CanChange asked (branch n l r)
    → has_member asked.member l ≡ true → CanChange asked l
can-left asked n l r c m = record { is_tree = c.is_tree.0; once = c.once.0; member = m; come = c.come.0 }

pub left-absent : (asked : MemberChange) (n : NodeOf) (l r : TreeOf) → CanChange asked (branch n l r)
    → has_member asked.member l ≡ true → has_member asked.member r ≡ false
left-absent asked n l r c m = c.once.2 asked.member m

pub can-right : (asked : MemberChange) (n : NodeOf) (l r : TreeOf) → CanChange asked (branch n l r)
    → has_member asked.member l ≡ false → CanChange asked r
can-right asked n l r c m = record {
  is_tree = c.is_tree.1;
  once = c.once.1;
  member = or-left _ _ c.member m;
  come = c.come.1;
}

-- ---- what comes to a tree fits
changed-all : (P : Made → Type 0) (asked : MemberChange) (made : List Made) → AllByRecursion P asked.come.items
    → AllByRecursion P made → AllByRecursion P (changed_by asked made)
changed-all P asked made c a = all-append P asked.come.items _ c (kept made a)
  where
    at : (b : Bool) (m : Made) (ms : List Made) → P m → AllByRecursion P ms → AllByRecursion P (cond b (m ∷ ms) ms)
    at true m ms x xs = (x, xs)
    at false m ms x xs = xs

    kept : (ms : List Made) → AllByRecursion P ms → AllByRecursion P (filter (is_not_of asked.gone.items) ms)
    kept [] b = tt
    kept (m ∷ ms) b = at (is_not_of asked.gone.items m) m _ b.0 (kept ms b.1)

pub of-items : (P : Made → Type 0) (hs : List (Held Made)) → AllByRecursion P (map item_of hs)
    → AllByRecursion (λ (h : Held Made). P h.item) hs
of-items P [] a = tt
of-items P (h ∷ hs) a = (a.0, of-items P hs a.1)

to-items : (P : Made → Type 0) (hs : List (Held Made)) → AllByRecursion (λ (h : Held Made). P h.item) hs
    → AllByRecursion P (map item_of hs)
to-items P [] a = tt
to-items P (h ∷ hs) a = (a.0, to-items P hs a.1)

pub leaf-after : (asked : MemberChange) (size : ℕ) (before after : List (Held Made))
    → AllByRecursion (λ (h : Held Made). IsMemberRule size h.item) before
    → AllByRecursion (IsMemberRule size) asked.come.items →
    IsPermutation (map item_of after) (changed_by asked (map item_of before))
    → AllByRecursion (λ (h : Held Made). IsMemberRule size h.item) after
leaf-after asked size before after b c p =
    of-items (IsMemberRule size) after
    (all-permuted _ (map item_of after) (IsPermutation-sym _ _ p) (IsMemberRule size)
    (changed-all (IsMemberRule size) asked (map item_of before) c (to-items (IsMemberRule size) before b)))

module _ (p q : ChangeOf → List (Held Made) → Type 0) (asked : MemberChange) (n : NodeOf) (node : Node)
    (l r l' r' : TreeOf) (change : ChangeOf) (after : List (Held Made)) (b : IsBranch n l r)
    (lf : AreFit (tree_size l) (rules_in (made_in l))) (rf : AreFit (tree_size r) (rules_in (made_in r)))
    (pf : (c : ChangeOf) (mid : List (Held Made)) → has_member asked.member r ≡ false → p c mid
    → AreFit (tree_size l) (rules_in mid)) (qf : (c : ChangeOf) (mid : List (Held Made))
    → has_member asked.member l ≡ false → q c mid → AreFit (tree_size r) (rules_in mid)) where
  follows-fit : (o : Option Below) → Follows p q asked n node l r l' r' o change after
      → AreFit (whole_size n.op (tree_size l) (tree_size r)) (rules_in after)
  follows-fit None f = absurd f
  follows-fit (Some below) f = by below.side f
    where
      by : (s : Side) → FollowsBy p q asked n node l r l' r' s below.change change after
          → AreFit (whole_size n.op (tree_size l) (tree_size r)) (rules_in after)
      by Left g = node-fit n (tree_size l) (tree_size r) (rules_in g.mid) (rules_in (made_in r)) after b.sizes
          b.operator (pf below.change g.mid g.absent g.changes) rf g.carried.made_are
      by Right g = node-fit n (tree_size l) (tree_size r) (rules_in (made_in l)) (rules_in g.mid) after b.sizes
          b.operator lf (qf below.change g.mid g.absent g.changes) g.carried.made_are

pub ready-fit : (asked : MemberChange) (before : TreeOf) (now : Tree) (change : ChangeOf) (after : List (Held Made))
    → IsTree before → ComesFit asked before → IsReadyIn asked before now change after
    → AreFit (tree_size before) (rules_in after)
ready-fit asked (leaf i s before) (Member j t now) change after t' c f =
    leaf-fit s after (leaf-after asked s before after t'.rules (c f.2) f.3.made_are)
ready-fit asked (branch n l r) (Operator' node p l' q r') change after (tl, tr, b) c f =
    follows-fit (IsReadyIn asked l l') (IsReadyIn asked r r') asked n node l r (tree_of l') (tree_of r') change after b
    (tree-fit l tl) (tree-fit r tr)
    (λ k mid a g. ready-fit asked l l' k mid tl c.0 g) (λ k mid a g. ready-fit asked r r' k mid tr c.1 g) node.below f
ready-fit asked (leaf i s before) (Operator' node p l' q r') change after t' c f = absurd f
ready-fit asked (branch n l r) (Member j t now) change after t' c f = absurd f

-- ---- what a node is told
pub left-changes : (asked : MemberChange) (n : NodeOf) (l r : TreeOf) (now : Tree) (below : ChangeOf)
    (mid : List (Held Made)) → CanChange asked (branch n l r) → IsReadyIn asked l now below mid →
    LeftChanges n (made_in l) (made_in (tree_of now)) mid (made_in r) below
left-changes asked n l r now below mid c f =
    let root = root-ready asked l now below mid f in
    record {
      node = c.is_tree.2.node;
      lost = root.lost;
      fresh = root.fresh;
      ready = root.ready;
      after_is = root.after_is;
      left_size = tree_size l;
      right_size = tree_size r;
      sizes = c.is_tree.2.sizes;
      lefts_fit = ready-fit asked l now below mid c.is_tree.0 c.come.0 f;
      rights_fit = tree-fit r c.is_tree.1;
    }

pub right-changes : (asked : MemberChange) (n : NodeOf) (l r : TreeOf) (now : Tree) (below : ChangeOf)
    (mid : List (Held Made)) → CanChange asked (branch n l r) → IsReadyIn asked r now below mid →
    RightChanges n (made_in r) (made_in (tree_of now)) mid (made_in l) below
right-changes asked n l r now below mid c f =
    let root = root-ready asked r now below mid f in
    record {
      node = c.is_tree.2.node;
      lost = root.lost;
      fresh = root.fresh;
      ready = root.ready;
      after_is = root.after_is;
      left_size = tree_size l;
      right_size = tree_size r;
      sizes = c.is_tree.2.sizes;
      lefts_fit = tree-fit l c.is_tree.0;
      rights_fit = ready-fit asked r now below mid c.is_tree.1 c.come.1 f;
    }

-- ---- a node follows its operand
module _ (asked : MemberChange) (n : NodeOf) (l r : TreeOf) (l' r' : Tree) (node : Node) (below change : ChangeOf)
    (mid after : List (Held Made)) where
  pub follow-left : node.below ≡ Some (record { side = Left; change = below }) → IsReadyIn asked l l' below mid
      → tree_of r' ≡ r → has_member asked.member r ≡ false → node_of node ≡ record n { made = node.made } →
      length below.come ≤ node.lefts.room
      → IsCarried n.made node.made after change (made_by n (rules_in mid) (rules_in (made_in r))) →
      Follows (IsReadyIn asked l l') (IsReadyIn asked r r') asked n node l r (tree_of l') (tree_of r') node.below change
      after
  follow-left e f s a i room c =
      subst (λ o. Follows (IsReadyIn asked l l') (IsReadyIn asked r r') asked n node l r (tree_of l') (tree_of r') o
      change after) (sym e)
      (record { mid = mid; changes = f; same = s; absent = a; node_is = i; room = room; carried = c })

  pub follow-right : node.below ≡ Some (record { side = Right; change = below }) → IsReadyIn asked r r' below mid
      → tree_of l' ≡ l → has_member asked.member l ≡ false → node_of node ≡ record n { made = node.made } →
      length below.come ≤ node.rights.room
      → IsCarried n.made node.made after change (made_by n (rules_in (made_in l)) (rules_in mid)) →
      Follows (IsReadyIn asked l l') (IsReadyIn asked r r') asked n node l r (tree_of l') (tree_of r') node.below change
      after
  follow-right e f s a i room c =
      subst (λ o. Follows (IsReadyIn asked l l') (IsReadyIn asked r r') asked n node l r (tree_of l') (tree_of r') o
      change after) (sym e)
      (record { mid = mid; changes = f; same = s; absent = a; node_is = i; room = room; carried = c })

module _ (p q : ChangeOf → List (Held Made) → Type 0) (asked : MemberChange) (n : NodeOf) (node : Node)
    (l r l' r' : TreeOf) (o : Option Below) (side : Side) (below change : ChangeOf) (after : List (Held Made)) where
  pub as-left : Follows p q asked n node l r l' r' o change after → o ≡ Some (record { side = side; change = below })
      → side ≡ Left → FollowsLeft p asked n node r r' below change after
  as-left f e s = subst (λ z. FollowsBy p q asked n node l r l' r' z below change after) s
      (subst (λ z. Follows p q asked n node l r l' r' z change after) e f)

  pub as-right : Follows p q asked n node l r l' r' o change after → o ≡ Some (record { side = side; change = below })
      → side ≡ Right → FollowsRight q asked n node l l' below change after
  as-right f e s = subst (λ z. FollowsBy p q asked n node l r l' r' z below change after) s
      (subst (λ z. Follows p q asked n node l r l' r' z change after) e f)

  pub as-none : Follows p q asked n node l r l' r' o change after → o ≡ None → ⊥
  as-none f e = subst (λ z. Follows p q asked n node l r l' r' z change after) e f

-- ---- a node is settled with its operand
module _ (asked : MemberChange) (n : NodeOf) (l r : TreeOf) (can : CanChange asked (branch n l r))
    (mid after made : List (Held Made)) (at : IsPermutation made after) where
  pub settle-left : (l' : TreeOf) (lefts : List Item) → has_member asked.member r ≡ false → IsSettled asked l l' mid
      → IsPermutation (map item_of after) (made_by n (rules_in mid) (rules_in (made_in r))) →
      IsPermutation lefts (filter_map (shown (reach n.op)) (rules_in mid))
      → IsSettled asked (branch n l r) (branch (record n { made = made; lefts = lefts }) l' r) after
  settle-left l' lefts absent s m i =
      let b = can.is_tree.2 in
      let operand = IsPermutation-sym _ _ (IsPermutation-map rule_held (made_in l') mid s.root) in
      record {
        is_tree = (
          s.is_tree,
          can.is_tree.1,
          record {
            sizes = record {
              size = b.sizes.size;
              left_positive = subst (λ (k : ℕ). 0 < k) (sym (same-size asked l l' s.changes)) b.sizes.left_positive;
              right_positive = b.sizes.right_positive;
              whole = subst (λ (k : ℕ). whole_size n.op k (tree_size r) < 2 ^ 64) (sym (same-size asked l l' s.changes))
                  b.sizes.whole;
            };
            node = record {
              made_are = IsPermutation-trans _ _ _ (IsPermutation-map item_of made after at)
                  (IsPermutation-trans _ _ _ m
                  (made-left (held_way n.op n.size) (rules_in mid) (rules_in (made_in l')) (rules_in (made_in r))
                  operand));
              shown = record {
                lefts_are = IsPermutation-trans _ _ _ i
                    (permuted-filter_map (shown (reach n.op)) (rules_in mid) (rules_in (made_in l')) operand);
                rights_are = b.node.shown.rights_are;
              };
            };
            operator = b.operator;
          },
        );
        changes = (refl, refl, s.changes, unchanged asked r absent);
        root = at;
      }

  pub settle-right : (r' : TreeOf) (rights : List Item) → has_member asked.member l ≡ false → IsSettled asked r r' mid
      → IsPermutation (map item_of after) (made_by n (rules_in (made_in l)) (rules_in mid)) →
      IsPermutation rights (filter_map (shown (asks n.op)) (rules_in mid))
      → IsSettled asked (branch n l r) (branch (record n { made = made; rights = rights }) l r') after
  settle-right r' rights absent s m i =
      let b = can.is_tree.2 in
      let operand = IsPermutation-sym _ _ (IsPermutation-map rule_held (made_in r') mid s.root) in
      record {
        is_tree = (
          can.is_tree.0,
          s.is_tree,
          record {
            sizes = record {
              size = b.sizes.size ∙ sym (same-size asked r r' s.changes);
              left_positive = b.sizes.left_positive;
              right_positive = subst (λ (k : ℕ). 0 < k) (sym (same-size asked r r' s.changes)) b.sizes.right_positive;
              whole = subst (λ (k : ℕ). whole_size n.op (tree_size l) k < 2 ^ 64) (sym (same-size asked r r' s.changes))
                  b.sizes.whole;
            };
            node = record {
              made_are = IsPermutation-trans _ _ _ (IsPermutation-map item_of made after at)
                  (IsPermutation-trans _ _ _ m
                  (made-right (held_way n.op n.size) (rules_in (made_in l)) (rules_in mid) (rules_in (made_in r'))
                  operand));
              shown = record {
                lefts_are = b.node.shown.lefts_are;
                rights_are = IsPermutation-trans _ _ _ i
                    (permuted-filter_map (shown (asks n.op)) (rules_in mid) (rules_in (made_in r')) operand);
              };
            };
            operator = b.operator;
          },
        );
        changes = (refl, refl, unchanged asked l absent, s.changes);
        root = at;
      }

-- a member is settled
pub settle-leaf : (asked : MemberChange) (i s : ℕ) (before now after made : List (Held Made)) (change : ChangeOf)
    → CanChange asked (leaf i s before) → i ≡ asked.member
    → IsCarried before now after change (changed_by asked (map item_of before)) → IsPermutation made after →
    IsSettled asked (leaf i s before) (leaf i s made) after
settle-leaf asked i s before now after made change can e c at =
    let items = IsPermutation-trans _ _ _ (IsPermutation-map item_of made after at) c.made_are in
    record {
      is_tree = record {
        positive = can.is_tree.positive;
        rules = leaf-after asked s before made can.is_tree.rules (can.come e) items;
      };
      changes = (
        refl,
        refl,
        subst (λ b. IsPermutation (map item_of made)
            (cond b (changed_by asked (map item_of before)) (map item_of before))) (sym (eq-same asked.member i e))
            items,
      );
      root = at;
    }
