-- A change that is under way in a tree: it is made ready, settled or taken back node by node.
use Rattle.std.proofs.Common.{◌≡◌, ℕ, ◌==◌, ◌+◌, ◌<◌, ◌≤◌, Bool, true, false, not, inl, inr, ◌||◌, List, ◌++◌, Some}
use Rattle.std.proofs.Common.{None, Result, Ok, Err, length, map, refl, sym, ap, subst, ◌∙◌, arith}
use Rattle.std.specs.Prelude.{IfOk, IsPermutation, OnOk, filter, filter_map}
use Rattle.std.proofs.lemmas.Bool.{cases_eq}
use Rattle.op_compose.specs.declared.op.Op.{Op}
use Rattle.op_compose.specs.declared.op.Side.{Side}
use Rattle.op_compose.specs.declared.op.Side.TheVariants.{Left, Right}
use Rattle.rule_ancestry.specs.Holding.{Held, id_of, item_of}
use Rattle.rule_ancestry.proofs.StoreLemmas.{eq-other}
use Rattle.made_rules.specs.Changing.{AreWide, ChangeOf, IsReady, settled}
use Rattle.made_rules.specs.Rules.{is_held_of, is_made_of, rules_in}
use Rattle.made_rules.specs.declared.made.Made.{Made}
use Rattle.made_rules.specs.declared.made.Origin.{Origin}
use Rattle.incr_compile.specs.Candidates.{asked as asks, reach, shown}
use Rattle.incr_compile.specs.Nodes.{IsCarried, LeftChanges, NodeOf, RightChanges, made_by, node_of}
use Rattle.incr_compile.specs.Trees.{CanCarryLeft, CanCarryRight, CanChange, Follows, FollowsLeft, FollowsRight}
use Rattle.incr_compile.specs.Trees.{IsReadyIn, IsSettled, IsUnderWay, TreeOf, branch, has_member, leaf, made_in}
use Rattle.incr_compile.specs.Trees.{tree_of}
use Rattle.incr_compile.specs.declared.node.Node.{Node}
use Rattle.incr_compile.specs.declared.tree.MemberChange.{MemberChange}
use Rattle.incr_compile.specs.declared.tree.Tree.{Tree}
use Rattle.incr_compile.specs.declared.tree.Tree.TheVariants.{Member, Operator'}
use Rattle.incr_compile.proofs.TreeLemmas.{as-left, as-none, as-right, can-left, can-right, follow-left, follow-right}
use Rattle.incr_compile.proofs.TreeLemmas.{left-absent, left-changes, right-changes, root-ready, root-wide}
use Rattle.incr_compile.proofs.TreeLemmas.{settle-leaf, settle-left, settle-right}
use Rattle.incr_compile.proofs.Whole.{settled-items}

or-right : (a b : Bool) → (a || b) ≡ true → b ≡ false → a ≡ true
or-right true b e f = refl
or-right false b e f = absurd (let z : true ≡ false = sym e ∙ f in cc)

pub only-left : (asked : MemberChange) (n : NodeOf) (l r : TreeOf) → CanChange asked (branch n l r)
    → has_member asked.member r ≡ false → CanChange asked l
only-left asked n l r can a = can-left asked n l r can (or-right _ _ can.member a)

pub only-right : (asked : MemberChange) (n : NodeOf) (l r : TreeOf) → CanChange asked (branch n l r)
    → has_member asked.member l ≡ false → CanChange asked r
only-right asked n l r can a = can-right asked n l r can a

-- ---- what is under way
pub under-wide : (t : Tree) (change : ChangeOf) → IsUnderWay t change → AreWide (made_in (tree_of t)) change.stays
under-wide t change u = root-wide u.asked u.before t change u.after u.ready

pub record LeftUnderWay (node : Node) (l : Tree) (below : ChangeOf) : Type 0 where
  pub room : length below.come ≤ node.lefts.room
  pub shown : (before : List (Held Made)) × (lost : List ℕ) × (fresh : List Made)
      × IsReady before (made_in (tree_of l)) lost fresh below
      × IsPermutation node.lefts.items (filter_map (shown (reach node.op)) (rules_in before))
  pub operand : IsUnderWay l below

pub record RightUnderWay (node : Node) (r : Tree) (below : ChangeOf) : Type 0 where
  pub room : length below.come ≤ node.rights.room
  pub shown : (before : List (Held Made)) × (lost : List ℕ) × (fresh : List Made)
      × IsReady before (made_in (tree_of r)) lost fresh below
      × IsPermutation node.rights.items (filter_map (shown (asks node.op)) (rules_in before))
  pub operand : IsUnderWay r below

module _ (node : Node) (l' r' : Tree) (side : Side) (below change : ChangeOf)
    (e : node.below ≡ Some (record { side = side; change = below })) where
  module _ (asked : MemberChange) (n : NodeOf) (l r : TreeOf) (after : List (Held Made))
      (can : CanChange asked (branch n l r)) where
    shown-lefts : (g : FollowsLeft (IsReadyIn asked l l') asked n node r (tree_of r') below change after)
        → IsPermutation node.lefts.items (filter_map (shown (reach node.op)) (rules_in (made_in l)))
    shown-lefts g =
        subst (λ (x : NodeOf). IsPermutation x.lefts (filter_map (shown (reach x.op)) (rules_in (made_in l))))
        (sym g.node_is) can.is_tree.2.node.shown.lefts_are

    shown-rights : (g : FollowsRight (IsReadyIn asked r r') asked n node l (tree_of l') below change after)
        → IsPermutation node.rights.items (filter_map (shown (asks node.op)) (rules_in (made_in r)))
    shown-rights g =
        subst (λ (x : NodeOf). IsPermutation x.rights (filter_map (shown (asks x.op)) (rules_in (made_in r))))
        (sym g.node_is) can.is_tree.2.node.shown.rights_are

  pub left-by : (asked : MemberChange) (before : TreeOf) (after : List (Held Made)) (p q : _) → CanChange asked before
      → IsReadyIn asked before (Operator' node p l' q r') change after → side ≡ Left → LeftUnderWay node l' below
  left-by asked (leaf i s b) after p q can f s' = absurd f
  left-by asked (branch n l r) after p q can f s =
      let g = as-left (IsReadyIn asked l l') (IsReadyIn asked r r') asked n node l r (tree_of l') (tree_of r')
      node.below side below change after f e s in
      let root = root-ready asked l l' below g.mid g.changes in
      record {
        room = g.room;
        shown = (made_in l, root.lost, root.fresh, root.ready, shown-lefts asked n l r after can g);
        operand = record {
          asked = asked;
          before = l;
          after = g.mid;
          can = only-left asked n l r can g.absent;
          ready = g.changes;
        };
      }

  pub right-by : (asked : MemberChange) (before : TreeOf) (after : List (Held Made)) (p q : _) → CanChange asked before
      → IsReadyIn asked before (Operator' node p l' q r') change after → side ≡ Right → RightUnderWay node r' below
  right-by asked (leaf i s b) after p q can f s' = absurd f
  right-by asked (branch n l r) after p q can f s =
      let g = as-right (IsReadyIn asked l l') (IsReadyIn asked r r') asked n node l r (tree_of l') (tree_of r')
      node.below side below change after f e s in
      let root = root-ready asked r r' below g.mid g.changes in
      record {
        room = g.room;
        shown = (made_in r, root.lost, root.fresh, root.ready, shown-rights asked n l r after can g);
        operand = record {
          asked = asked;
          before = r;
          after = g.mid;
          can = only-right asked n l r can g.absent;
          ready = g.changes;
        };
      }

  -- ---- settled
  pub settled-left-by : (asked : MemberChange) (before : TreeOf) (after : List (Held Made)) (p q : _) (node' : Node)
      (l'' : Tree) → CanChange asked before → IsReadyIn asked before (Operator' node p l' q r') change after
      → side ≡ Left →
      ((b : List (Held Made)) (lost : List ℕ) (fresh : List Made)
      (r : IsReady b (made_in (tree_of l')) lost fresh below)
      → IsPermutation node.lefts.items (filter_map (shown (reach node.op)) (rules_in b))
      → IsPermutation node'.lefts.items (filter_map (shown (reach node.op)) (rules_in (settled r)))) →
      ((b : List (Held Made)) (lost : List ℕ) (fresh : List Made) (u : IsReady b node.made lost fresh change)
      → IsPermutation node'.made (settled u)) →
      node_of node' ≡ record (node_of node) { made = node'.made; lefts = node'.lefts.items } →
      ((a : MemberChange) (b : TreeOf) (m : List (Held Made)) → CanChange a b → IsReadyIn a b l' below m
      → IsSettled a b (tree_of l'') m) →
      IsSettled asked before (branch (node_of node') (tree_of l'') (tree_of r')) after
  settled-left-by asked (leaf i s b) after p q node' l'' can f s' show out rest child = absurd f
  settled-left-by asked (branch n l r) after p q node' l'' can f s show out rest child =
      let g = as-left (IsReadyIn asked l l') (IsReadyIn asked r r') asked n node l r (tree_of l') (tree_of r')
      node.below side below change after f e s in
      let root = root-ready asked l l' below g.mid g.changes in
      let index = show (made_in l) root.lost root.fresh root.ready (shown-lefts asked n l r after can g) in
      let index' =
      subst (λ (z : List (Held Made)). IsPermutation node'.lefts.items
      (filter_map (shown (reach node.op)) (rules_in z))) (sym root.after_is) index in
      let index'' = subst (λ (o : Op). IsPermutation node'.lefts.items (filter_map (shown (reach o)) (rules_in g.mid)))
      (ap (λ (x : NodeOf). x.op) g.node_is) index' in
      let made = subst (λ (z : List (Held Made)). IsPermutation node'.made z) (sym g.carried.after_is)
      (out n.made g.carried.lost g.carried.fresh g.carried.ready) in
      let done = settle-left asked n l r can g.mid after node'.made made (tree_of l'') node'.lefts.items g.absent
      (child asked l g.mid (only-left asked n l r can g.absent) g.changes) g.carried.made_are index'' in
      subst (λ (x : NodeOf). IsSettled asked (branch n l r) (branch x (tree_of l'') (tree_of r')) after)
      (sym (rest ∙ ap (λ (x : NodeOf). record x { made = node'.made; lefts = node'.lefts.items }) g.node_is))
      (subst (λ (x : TreeOf). IsSettled asked (branch n l r)
      (branch (record n { made = node'.made; lefts = node'.lefts.items }) (tree_of l'') x) after) (sym g.same) done)

  pub settled-right-by : (asked : MemberChange) (before : TreeOf) (after : List (Held Made)) (p q : _) (node' : Node)
      (r'' : Tree) → CanChange asked before → IsReadyIn asked before (Operator' node p l' q r') change after
      → side ≡ Right →
      ((b : List (Held Made)) (lost : List ℕ) (fresh : List Made)
      (r : IsReady b (made_in (tree_of r')) lost fresh below)
      → IsPermutation node.rights.items (filter_map (shown (asks node.op)) (rules_in b))
      → IsPermutation node'.rights.items (filter_map (shown (asks node.op)) (rules_in (settled r)))) →
      ((b : List (Held Made)) (lost : List ℕ) (fresh : List Made) (u : IsReady b node.made lost fresh change)
      → IsPermutation node'.made (settled u)) →
      node_of node' ≡ record (node_of node) { made = node'.made; rights = node'.rights.items } →
      ((a : MemberChange) (b : TreeOf) (m : List (Held Made)) → CanChange a b → IsReadyIn a b r' below m
      → IsSettled a b (tree_of r'') m) →
      IsSettled asked before (branch (node_of node') (tree_of l') (tree_of r'')) after
  settled-right-by asked (leaf i s b) after p q node' r'' can f s' show out rest child = absurd f
  settled-right-by asked (branch n l r) after p q node' r'' can f s show out rest child =
      let g = as-right (IsReadyIn asked l l') (IsReadyIn asked r r') asked n node l r (tree_of l') (tree_of r')
      node.below side below change after f e s in
      let root = root-ready asked r r' below g.mid g.changes in
      let index = show (made_in r) root.lost root.fresh root.ready (shown-rights asked n l r after can g) in
      let index' =
      subst (λ (z : List (Held Made)). IsPermutation node'.rights.items
      (filter_map (shown (asks node.op)) (rules_in z))) (sym root.after_is) index in
      let index'' = subst (λ (o : Op). IsPermutation node'.rights.items (filter_map (shown (asks o)) (rules_in g.mid)))
      (ap (λ (x : NodeOf). x.op) g.node_is) index' in
      let made = subst (λ (z : List (Held Made)). IsPermutation node'.made z) (sym g.carried.after_is)
      (out n.made g.carried.lost g.carried.fresh g.carried.ready) in
      let done = settle-right asked n l r can g.mid after node'.made made (tree_of r'') node'.rights.items g.absent
      (child asked r g.mid (only-right asked n l r can g.absent) g.changes) g.carried.made_are index'' in
      subst (λ (x : NodeOf). IsSettled asked (branch n l r) (branch x (tree_of l') (tree_of r'')) after)
      (sym (rest ∙ ap (λ (x : NodeOf). record x { made = node'.made; rights = node'.rights.items }) g.node_is))
      (subst (λ (x : TreeOf). IsSettled asked (branch n l r)
      (branch (record n { made = node'.made; rights = node'.rights.items }) x (tree_of r'')) after) (sym g.same)
      done)

  -- ---- taken back
  pub undone-left-by : (asked : MemberChange) (before : TreeOf) (after : List (Held Made)) (p q : _) (node' : Node)
      (l'' : TreeOf) → IsReadyIn asked before (Operator' node p l' q r') change after → side ≡ Left →
      ((b : List (Held Made)) (lost : List ℕ) (fresh : List Made) → IsReady b node.made lost fresh change
      → node'.made ≡ b) → node_of node' ≡ record (node_of node) { made = node'.made } →
      ((a : MemberChange) (b : TreeOf) (m : List (Held Made)) → IsReadyIn a b l' below m → l'' ≡ b)
      → branch (node_of node') l'' (tree_of r') ≡ before
  undone-left-by asked (leaf i s b) after p q node' l'' f s' out rest child = absurd f
  undone-left-by asked (branch n l r) after p q node' l'' f s out rest child =
      let g = as-left (IsReadyIn asked l l') (IsReadyIn asked r r') asked n node l r (tree_of l') (tree_of r')
      node.below side below change after f e s in
      let made = out n.made g.carried.lost g.carried.fresh g.carried.ready in
      ap (λ (x : NodeOf). branch x l'' (tree_of r'))
      (rest ∙ ap (λ (x : NodeOf). record x { made = node'.made }) g.node_is
      ∙ ap (λ (z : List (Held Made)). record n { made = z }) made)
      ∙ ap (λ (x : TreeOf). branch n x (tree_of r')) (child asked l g.mid g.changes)
      ∙ ap (λ (x : TreeOf). branch n l x) g.same

  pub undone-right-by : (asked : MemberChange) (before : TreeOf) (after : List (Held Made)) (p q : _) (node' : Node)
      (r'' : TreeOf) → IsReadyIn asked before (Operator' node p l' q r') change after → side ≡ Right →
      ((b : List (Held Made)) (lost : List ℕ) (fresh : List Made) → IsReady b node.made lost fresh change
      → node'.made ≡ b) → node_of node' ≡ record (node_of node) { made = node'.made } →
      ((a : MemberChange) (b : TreeOf) (m : List (Held Made)) → IsReadyIn a b r' below m → r'' ≡ b)
      → branch (node_of node') (tree_of l') r'' ≡ before
  undone-right-by asked (leaf i s b) after p q node' r'' f s' out rest child = absurd f
  undone-right-by asked (branch n l r) after p q node' r'' f s out rest child =
      let g = as-right (IsReadyIn asked l l') (IsReadyIn asked r r') asked n node l r (tree_of l') (tree_of r')
      node.below side below change after f e s in
      let made = out n.made g.carried.lost g.carried.fresh g.carried.ready in
      ap (λ (x : NodeOf). branch x (tree_of l') r'')
      (rest ∙ ap (λ (x : NodeOf). record x { made = node'.made }) g.node_is
      ∙ ap (λ (z : List (Held Made)). record n { made = z }) made)
      ∙ ap (λ (x : TreeOf). branch n (tree_of l') x) (child asked r g.mid g.changes)
      ∙ ap (λ (x : TreeOf). branch n x r) g.same

-- ---- a member
pub settled-member : (asked : MemberChange) (before : TreeOf) (j t : ℕ) (now new : List (Held Made)) (change : ChangeOf)
    (after : List (Held Made)) → CanChange asked before → IsReadyIn asked before (Member j t now) change after →
    ((b : List (Held Made)) (lost : List ℕ) (fresh : List Made) (r : IsReady b now lost fresh change)
    → IsPermutation new (settled r)) → IsSettled asked before (leaf j t new) after
settled-member asked (leaf i s b) j t now new change after can f out =
    let made = subst (λ (z : List (Held Made)). IsPermutation new z) (sym f.3.after_is)
    (out b f.3.lost f.3.fresh f.3.ready) in
    subst (λ (k : ℕ). IsSettled asked (leaf i s b) (leaf k t new) after) (sym f.0)
    (subst (λ (k : ℕ). IsSettled asked (leaf i s b) (leaf i k new) after) (sym f.1)
    (settle-leaf asked i s b now after new change can f.2 f.3 made))
settled-member asked (branch n l r) j t now new change after can f out = absurd f

pub undone-member : (asked : MemberChange) (before : TreeOf) (j t : ℕ) (now new : List (Held Made)) (change : ChangeOf)
    (after : List (Held Made)) → IsReadyIn asked before (Member j t now) change after →
    ((b : List (Held Made)) (lost : List ℕ) (fresh : List Made) → IsReady b now lost fresh change → new ≡ b)
    → leaf j t new ≡ before
undone-member asked (leaf i s b) j t now new change after f out =
    ap (λ (k : ℕ). leaf k t new) f.0 ∙ ap (λ (k : ℕ). leaf i k new) f.1
    ∙ ap (λ (z : List (Held Made)). leaf i s z) (out b f.3.lost f.3.fresh f.3.ready)
undone-member asked (branch n l r) j t now new change after f out = absurd f

same-number : (i j : ℕ) → (i == j) ≡ true → j ≡ i
same-number i j e = elim (cases_eq j i) [
  | inl s ↦ s
  | inr n ↦ absurd (let z : false ≡ true = sym (eq-other i j n) ∙ e in cc)
]

pub ready-member : (asked : MemberChange) (i s : ℕ) (before now : List (Held Made)) (lost : List ℕ)
    (origins : List Origin) (fresh : List Made) (change : ChangeOf) → CanChange asked (leaf i s before)
    → IsReady before now lost fresh change →
    fresh ≡ asked.come.items → origins ≡ asked.gone.items → lost ≡ map id_of (filter (is_held_of origins) before)
    → (after : List (Held Made)) × IsReadyIn asked (leaf i s before) (Member i s now) change after
ready-member asked i s before now lost origins fresh change can r c o e =
    let p = is_made_of asked.gone.items in
    let e' : lost ≡ map id_of (filter (λ h. p h.item) before) =
    subst (λ z. lost ≡ map id_of (filter (is_held_of z) before)) o e in (
      settled r,
      (
        refl,
        refl,
        same-number asked.member i can.member,
        record {
          lost = lost;
          fresh = fresh;
          ready = r;
          after_is = refl;
          made_are =
              subst (λ (z : List Made). IsPermutation (map item_of (settled r))
              (z ++ filter (λ m. not (p m)) (map item_of before))) c
              (settled-items before now lost fresh change r p e');
        },
      ),
    )

-- ---- what is read of a place
pub read-at : (below : ChangeOf) (P Q : List (Held Made) → Type 0) (y z : List (Held Made)) → y ≡ z →
    ((b : List (Held Made)) (lost : List ℕ) (fresh : List Made) (r : IsReady b y lost fresh below) → P b
    → Q (settled r)) → (b : List (Held Made)) (lost : List ℕ) (fresh : List Made) (r : IsReady b z lost fresh below)
    → P b → Q (settled r)
read-at below P Q y z e f =
    subst (λ (w : List (Held Made)). (b : List (Held Made)) (lost : List ℕ) (fresh : List Made)
    (r : IsReady b w lost fresh below) → P b → Q (settled r)) e f

pub left-at : (t u : Tree) (change : ChangeOf) (left : List Made) → t ≡ u
    → ((b : List (Held Made)) (lost : List ℕ) (fresh : List Made)
    (r : IsReady b (made_in (tree_of u)) lost fresh change) → left ≡ map item_of r.going) →
    (b : List (Held Made)) (lost : List ℕ) (fresh : List Made) (r : IsReady b (made_in (tree_of t)) lost fresh change)
    → left ≡ map item_of r.going
left-at t u change left e f =
    subst (λ (x : Tree). (b : List (Held Made)) (lost : List ℕ) (fresh : List Made)
    (r : IsReady b (made_in (tree_of x)) lost fresh change) → left ≡ map item_of r.going) (sym e) f

-- nothing is under way below a node only where nothing is ready there
pub none-below : (asked : MemberChange) (before : TreeOf) (node : Node) (l' r' : Tree) (p q : _) (change : ChangeOf)
    (after : List (Held Made)) → IsReadyIn asked before (Operator' node p l' q r') change after → node.below ≡ None → ⊥
none-below asked (leaf i s b) node l' r' p q change after f e = f
none-below asked (branch n l r) node l' r' p q change after f e =
    as-none (IsReadyIn asked l l') (IsReadyIn asked r r') asked n node l r (tree_of l') (tree_of r') node.below Left
    change change after f e

-- ---- a node can carry on what is ready
pub carry-left-can : (asked : MemberChange) (n : NodeOf) (l r r' : TreeOf) (old now : Tree) (below : ChangeOf)
    → CanChange asked (branch n l r) → has_member asked.member l ≡ true → tree_of old ≡ l → r' ≡ r →
    (mid : List (Held Made)) → IsReadyIn asked (tree_of old) now below mid → CanCarryLeft n now r' below
carry-left-can asked n l r r' old now below can m o e mid f =
    let g = subst (λ (z : TreeOf). IsReadyIn asked z now below mid) o f in
    record {
      asked = asked;
      before = l;
      mid = mid;
      can = can-left asked n l r can m;
      ready = g;
      changes = subst (λ (z : TreeOf). LeftChanges n (made_in l) (made_in (tree_of now)) mid (made_in z) below) (sym e)
          (left-changes asked n l r now below mid can g);
    }

pub carry-right-can : (asked : MemberChange) (n : NodeOf) (l r l' : TreeOf) (old now : Tree) (below : ChangeOf)
    → CanChange asked (branch n l r) → has_member asked.member l ≡ false → tree_of old ≡ r → l' ≡ l →
    (mid : List (Held Made)) → IsReadyIn asked (tree_of old) now below mid → CanCarryRight n l' now below
carry-right-can asked n l r l' old now below can m o e mid f =
    let g = subst (λ (z : TreeOf). IsReadyIn asked z now below mid) o f in
    record {
      asked = asked;
      before = r;
      mid = mid;
      can = can-right asked n l r can m;
      ready = g;
      changes = subst (λ (z : TreeOf). RightChanges n (made_in r) (made_in (tree_of now)) mid (made_in z) below) (sym e)
          (right-changes asked n l r now below mid can g);
    }

pub left-changes-at : (asked : MemberChange) (n : NodeOf) (l r r' : TreeOf) (old now : Tree) (below : ChangeOf)
    → CanChange asked (branch n l r) → tree_of old ≡ l → r' ≡ r → (mid : List (Held Made))
    → IsReadyIn asked (tree_of old) now below mid →
    LeftChanges n (made_in l) (made_in (tree_of now)) mid (made_in r') below
left-changes-at asked n l r r' old now below can o e mid f =
    subst (λ (z : TreeOf). LeftChanges n (made_in l) (made_in (tree_of now)) mid (made_in z) below) (sym e)
    (left-changes asked n l r now below mid can (subst (λ (z : TreeOf). IsReadyIn asked z now below mid) o f))

pub right-changes-at : (asked : MemberChange) (n : NodeOf) (l r l' : TreeOf) (old now : Tree) (below : ChangeOf)
    → CanChange asked (branch n l r) → tree_of old ≡ r → l' ≡ l → (mid : List (Held Made))
    → IsReadyIn asked (tree_of old) now below mid →
    RightChanges n (made_in r) (made_in (tree_of now)) mid (made_in l') below
right-changes-at asked n l r l' old now below can o e mid f =
    subst (λ (z : TreeOf). RightChanges n (made_in r) (made_in (tree_of now)) mid (made_in z) below) (sym e)
    (right-changes asked n l r now below mid can (subst (λ (z : TreeOf). IsReadyIn asked z now below mid) o f))

-- ---- an operand has fewer operators
abbrev pub branches : TreeOf → ℕ
branches (leaf i s made) = 0
branches (branch n l r) = branches l + branches r + 1

pub left-smaller : (t u : TreeOf) (n : NodeOf) (l r : TreeOf) → t ≡ branch n l r → u ≡ l → branches u < branches t
left-smaller t u n l r e s = subst (λ (z : TreeOf). branches u < branches z) (sym e)
    (subst (λ (z : TreeOf). branches z < branches l + branches r + 1) (sym s) (omega arith))

pub right-smaller : (t u : TreeOf) (n : NodeOf) (l r : TreeOf) → t ≡ branch n l r → u ≡ r → branches u < branches t
right-smaller t u n l r e s = subst (λ (z : TreeOf). branches u < branches z) (sym e)
    (subst (λ (z : TreeOf). branches z < branches l + branches r + 1) (sym s) (omega arith))

-- ---- what a call gives and leaves
pub all-ok : {X E : Type 0} (r : Result X E) (P R : X → Type 0) (A B C : Type 0) → IfOk r P → OnOk r A → OnOk r B
    → OnOk r C → ((x : X) → A → B → C → P x → R x) → IfOk r R
all-ok (Ok x) P R A B C p a b c f = f x a b c p
all-ok (Err e) P R A B C p a b c f = tt

-- the tree that a change began with, spelled otherwise
pub at-tree : (asked : MemberChange) (t u : TreeOf) (now : Tree) (change : ChangeOf) (after : List (Held Made)) → t ≡ u
    → IsReadyIn asked u now change after → IsReadyIn asked t now change after
at-tree asked t u now change after e f = subst (λ (z : TreeOf). IsReadyIn asked z now change after) (sym e) f

module _ (asked : MemberChange) (node node' : Node) (l r now : Tree) (below change : ChangeOf) (mid : List (Held Made))
    (can : CanChange asked (branch (node_of node) (tree_of l) (tree_of r))) where
  pub ready-left-all : has_member asked.member (tree_of l) ≡ true → IsReadyIn asked (tree_of l) now below mid
      → node'.below ≡ Some (record { side = Left; change = below }) → length below.come ≤ node'.lefts.room →
      node_of node' ≡ record (node_of node) { made = node'.made }
      → (c : (after : List (Held Made))
      × IsCarried node.made node'.made after change
      (made_by (node_of node) (rules_in mid) (rules_in (made_in (tree_of r))))) →
      (after : List (Held Made)) × Follows (IsReadyIn asked (tree_of l) now) (IsReadyIn asked (tree_of r) r) asked
      (node_of node) node' (tree_of l) (tree_of r) (tree_of now) (tree_of r) node'.below change after
  ready-left-all m g b room rest c = (
    c.0,
    follow-left asked (node_of node) (tree_of l) (tree_of r) now r node' below change mid c.0 b g refl
        (left-absent asked (node_of node) (tree_of l) (tree_of r) can m) rest room c.1,
  )

  pub ready-right-all : has_member asked.member (tree_of l) ≡ false → IsReadyIn asked (tree_of r) now below mid
      → node'.below ≡ Some (record { side = Right; change = below }) → length below.come ≤ node'.rights.room →
      node_of node' ≡ record (node_of node) { made = node'.made }
      → (c : (after : List (Held Made))
      × IsCarried node.made node'.made after change
      (made_by (node_of node) (rules_in (made_in (tree_of l))) (rules_in mid))) →
      (after : List (Held Made)) × Follows (IsReadyIn asked (tree_of l) l) (IsReadyIn asked (tree_of r) now) asked
      (node_of node) node' (tree_of l) (tree_of r) (tree_of l) (tree_of now) node'.below change after
  ready-right-all m g b room rest c = (
    c.0,
    follow-right asked (node_of node) (tree_of l) (tree_of r) l now node' below change mid c.0 b g refl m rest
        room c.1,
  )
