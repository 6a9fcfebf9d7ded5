-- The tree of an expression over tables.
use Rattle.std.proofs.Common.{◌≡◌, ◌≢◌, ℕ, zero, suc, ◌==◌, ◌*◌, ◌<◌, ◌^◌, Bool, true, false, ◌||◌, inl, inr, List}
use Rattle.std.proofs.Common.{[], ◌∷◌, ◌++◌, Option, Some, None, Result, Ok, map, refl, sym, ap, subst, ◌∙◌, arith}
use Rattle.std.specs.Prelude.{IfOk, IsPermutation, slice_get}
use Rattle.std.specs.List.{All, AllByRecursion, list_any}
use Rattle.std.proofs.lemmas.Bool.{cases_eq}
use Rattle.std.proofs.lemmas.List.Sorted.{IsPermutation-map, IsPermutation-sym, IsPermutation-trans}
use Rattle.alg_priority.specs.Levels.{capped}
use Rattle.list_change.proofs.Permute.{by-equation}
use Rattle.of10_match.specs.Normal.{IsNormal}
use Rattle.op_compose.specs.declared.op.Op.{Op}
use Rattle.op_compose.specs.declared.op.Op.TheVariants.{Par, Seq, Over, Hop}
use Rattle.policy_expr.specs.Policy.{Policy, member, members_of}
use Rattle.policy_meaning.specs.Best.{IsSound as IsSoundRule}
use Rattle.policy_meaning.specs.Fitting.{IsFittingTable, levels_of}
use Rattle.policy_meaning.specs.LeafFact.{EachPair, IsSoundTable}
use Rattle.policy_meaning.specs.Networks.{table_rules, table_size}
use Rattle.policy_meaning.specs.declared.leaf.LeafTable.{LeafTable}
use Rattle.policy_meaning.specs.declared.rule.Rule.{Rule}
use Rattle.policy_meaning.proofs.Chains.{high}
use Rattle.policy_meaning.proofs.LeafLemmas.{leaf_rules_are_sound}
use Rattle.policy_meaning.proofs.LevelsBelow.{levels-positive, rules-below}
use Rattle.policy_meaning.proofs.Lists.{all-map}
use Rattle.policy_meaning.proofs.Rising.{all-permuted}
use Rattle.rule_ancestry.specs.Holding.{Held, item_of}
use Rattle.rule_ancestry.proofs.StoreLemmas.{eq-other}
use Rattle.made_rules.specs.Rules.{rule_of, rules_in}
use Rattle.made_rules.specs.declared.made.Made.{Made}
use Rattle.incr_compile.specs.Compiling.{CanBeOver, IsBuilt, IsByLeaves, IsOver, composed_by, policy_in}
use Rattle.incr_compile.specs.Nodes.{CanJoin, IsNode, NodeOf, whole_size}
use Rattle.incr_compile.specs.Trees.{IsMemberRule, IsOnce, IsTree, TreeOf, branch, has_member, leaf, made_in, tree_of}
use Rattle.incr_compile.specs.Trees.{tree_size}
use Rattle.incr_compile.specs.declared.tree.Tree.{Tree}
use Rattle.incr_compile.proofs.Scratch.{size-is}
use Rattle.incr_compile.proofs.Told.{come-rules}
use Rattle.incr_compile.proofs.TreeLemmas.{of-items, tree-fit}

-- ---- a member
abbrev SoundAt : Option LeafTable → Type 0
SoundAt None = Unit {0}
SoundAt (Some t) = IsSoundTable t

among : (tables : List LeafTable) (i : ℕ) → AllByRecursion IsSoundTable tables → SoundAt (slice_get tables i)
among [] i p = tt
among (t ∷ ts) zero p = p.0
among (t ∷ ts) (suc i) p = among ts i p.1

normal-rules : (ports : List ℕ) (o : Option LeafTable) → SoundAt o
    → AllByRecursion (λ (r : Rule). IsNormal r.m) (table_rules ports o)
normal-rules ports None s = tt
normal-rules ports (Some t) s = all-map IsSoundRule (λ (r : Rule). IsNormal r.m) _ (λ r k. k.is_normal)
    (leaf_rules_are_sound ports t s)

module _ (tables : List LeafTable) (ports : List ℕ) (all : All IsFittingTable tables)
    (sound : AllByRecursion IsSoundTable tables) where
  pub member-built : (i s : ℕ) (made : List Made) (held : List (Held Made)) → s ≡ table_size (slice_get tables i)
      → map rule_of made ≡ table_rules ports (slice_get tables i) → AllByRecursion IsByLeaves made
      → IsPermutation (map item_of held) made →
      IsBuilt tables ports (member i) (leaf i s held)
  member-built i s made held e r f p =
      let normal = subst (λ (z : List Rule). AllByRecursion (λ (x : Rule). IsNormal x.m) z) (sym r)
      (normal-rules ports (slice_get tables i) (among tables i sound)) in
      let below = subst (λ (k : ℕ). AllByRecursion (λ (x : Rule). x.level < k) (map rule_of made)) (sym e)
      (subst (λ (z : List Rule). AllByRecursion (λ (x : Rule). x.level < table_size (slice_get tables i)) z) (sym r)
      (rules-below tables all ports (member i))) in
      record {
        is_tree = record {
          positive = subst (λ (k : ℕ). 0 < k) (sym e) (levels-positive tables all (member i));
          rules = of-items (IsMemberRule s) held
              (all-permuted made (map item_of held) (IsPermutation-sym _ _ p) (IsMemberRule s)
              (come-rules s made f normal below));
        };
        tables_are = (e, IsPermutation-trans _ _ _ (IsPermutation-map rule_of _ _ p) (by-equation _ _ r));
        policy = refl;
      }

-- ---- an operator
product-positive : (n k : ℕ) → 0 < n → 0 < k → 0 < n * k
product-positive n k p q = let h = high 0 n k 0 p q in omega arith

whole-positive : (op : Op) (n k : ℕ) → 0 < n → 0 < k → 0 < whole_size op n k
whole-positive Par n k p q = omega arith
whole-positive Seq n k p q = product-positive n k p q
whole-positive Over n k p q = omega arith
whole-positive Hop n k p q = product-positive n k p q

pub tree-positive : (t : TreeOf) → IsTree t → 0 < tree_size t
tree-positive (leaf i s made) t = t.positive
tree-positive (branch n l r) (tl, tr, b) =
    whole-positive n.op (tree_size l) (tree_size r) (tree-positive l tl) (tree-positive r tr)

module _ (op : Op) (size : ℕ) (l r : TreeOf) (tl : IsTree l) (tr : IsTree r) (e : size ≡ tree_size r)
    (w : whole_size op (tree_size l) (tree_size r) < 2 ^ 64) where
  pub can-join : CanJoin op size (made_in l) (made_in r)
  can-join = record {
    left_size = tree_size l;
    right_size = tree_size r;
    size_is = e;
    left_positive = tree-positive l tl;
    right_positive = tree-positive r tr;
    whole = w;
    lefts_fit = tree-fit l tl;
    rights_fit = tree-fit r tr;
  }

  pub over-two : (n : NodeOf) (t : TreeOf) → op ≢ Hop → n.op ≡ op → n.size ≡ size
      → IsNode n (rules_in (made_in l)) (rules_in (made_in r)) → t ≡ branch n l r → IsOver op l r t
  over-two n t h o s k is = record {
    node = n;
    is_op = o;
    is_branch = record {
      sizes = record {
        size = s ∙ e;
        left_positive = tree-positive l tl;
        right_positive = tree-positive r tr;
        whole = subst (λ (x : Op). whole_size x (tree_size l) (tree_size r) < 2 ^ 64) (sym o) w;
      };
      node = k;
      operator = λ x. h (sym o ∙ x);
    };
    over = is;
  }

pub built-over : (tables : List LeafTable) (ports : List ℕ) (op : Op) (a b : Policy) (l r t : TreeOf)
    → IsBuilt tables ports a l → IsBuilt tables ports b r → IsOver op l r t
    → IsBuilt tables ports (composed_by op a b) t
built-over tables ports op a b l r t p q o =
    subst (IsBuilt tables ports (composed_by op a b)) (sym o.over) (record {
      is_tree = (p.is_tree, q.is_tree, o.is_branch);
      tables_are = (p.tables_are, q.tables_are);
      policy = ap (λ (x : Op). composed_by x (policy_in l) (policy_in r)) o.is_op
          ∙ ap (λ z. composed_by op z (policy_in r)) p.policy ∙ ap (λ z. composed_by op a z) q.policy;
    })

-- the size of a tree that was built is that of its expression
pub built-size : (tables : List LeafTable) (ports : List ℕ) (e : Policy) (t : TreeOf) → IsBuilt tables ports e t
    → tree_size t ≡ levels_of tables e
built-size tables ports e t b = size-is _ _ t b.tables_are ∙ ap (λ z. levels_of tables z) b.policy

pub capped-same : (n : ℕ) → n < 2 ^ 64 → capped n ≡ n
capped-same n p = omega arith

pub built-whole : (tables : List LeafTable) (ports : List ℕ) (op : Op) (a b : Policy) (l r : TreeOf)
    → IsBuilt tables ports a l → IsBuilt tables ports b r
    → whole_size op (levels_of tables a) (levels_of tables b) < 2 ^ 64 →
    whole_size op (tree_size l) (tree_size r) < 2 ^ 64
built-whole tables ports op a b l r p q w =
    subst (λ (k : ℕ). whole_size op k (tree_size r) < 2 ^ 64) (sym (built-size tables ports a l p))
    (subst (λ (k : ℕ). whole_size op (levels_of tables a) k < 2 ^ 64) (sym (built-size tables ports b r q)) w)

pub built-level : (tables : List LeafTable) (ports : List ℕ) (e : Policy) (t : TreeOf) (size : ℕ)
    → IsBuilt tables ports e t → levels_of tables e < 2 ^ 64 → size ≡ capped (levels_of tables e) → size ≡ tree_size t
built-level tables ports e t size b w s = s ∙ capped-same (levels_of tables e) w ∙ sym (built-size tables ports e t b)

pub built-can : (tables : List LeafTable) (ports : List ℕ) (op : Op) (a b : Policy) (l r : TreeOf) (size : ℕ) → op ≢ Hop
    → IsBuilt tables ports a l → IsBuilt tables ports b r
    → whole_size op (levels_of tables a) (levels_of tables b) < 2 ^ 64 →
    levels_of tables b < 2 ^ 64 → size ≡ capped (levels_of tables b) → CanBeOver op size l r
built-can tables ports op a b l r size h p q w k s = record {
  operator = h;
  left_tree = p.is_tree;
  right_tree = q.is_tree;
  size_is = built-level tables ports b r size q k s;
  whole = built-whole tables ports op a b l r p q w;
}

pub over-can : (op : Op) (size : ℕ) (l r : TreeOf) → CanBeOver op size l r → CanJoin op size (made_in l) (made_in r)
over-can op size l r c = can-join op size l r c.left_tree c.right_tree c.size_is c.whole

pub over-is : (op : Op) (size : ℕ) (l r : TreeOf) (n : NodeOf) (t : TreeOf) → CanBeOver op size l r → n.op ≡ op
    → n.size ≡ size → IsNode n (rules_in (made_in l)) (rules_in (made_in r)) → t ≡ branch n l r → IsOver op l r t
over-is op size l r n t c o s k is = over-two op size l r c.left_tree c.right_tree c.size_is c.whole n t c.operator o s
    k is

-- ---- each member once
members-by : (op : Op) (a b : Policy) → members_of (composed_by op a b) ≡ members_of a ++ members_of b
members-by Par a b = refl
members-by Seq a b = refl
members-by Over a b = refl
members-by Hop a b = refl

named-by : (op : Op) (i : ℕ) (a b : Policy)
    → list_any (λ j. i == j) (members_of (composed_by op a b))
    ≡ (list_any (λ j. i == j) (members_of a) || list_any (λ j. i == j) (members_of b))
named-by op i a b = ap (list_any (λ j. i == j)) (members-by op a b) ∙ both (members_of a) (members_of b)
  where
    either : (x y z : Bool) → (x || (y || z)) ≡ ((x || y) || z)
    either true y z = refl
    either false y z = refl

    both : (xs ys : List ℕ) → list_any (λ j. i == j) (xs ++ ys)
        ≡ (list_any (λ j. i == j) xs || list_any (λ j. i == j) ys)
    both [] ys = refl
    both (x ∷ xs) ys = ap (λ z. (i == x) || z) (both xs ys)
        ∙ either (i == x) (list_any (λ j. i == j) xs) (list_any (λ j. i == j) ys)

named : (i : ℕ) (t : TreeOf) → has_member i t ≡ list_any (λ j. i == j) (members_of (policy_in t))
named i (leaf j s made) = by (i == j)
  where
    by : (b : Bool) → b ≡ (b || false)
    by true = refl
    by false = refl
named i (branch n l r) =
    ap (λ b. b || has_member i r) (named i l)
    ∙ ap (λ b. list_any (λ j. i == j) (members_of (policy_in l)) || b) (named i r)
    ∙ sym (named-by n.op i (policy_in l) (policy_in r))

once-front : (xs ys : List ℕ) → EachPair (λ i j. i ≢ j) (xs ++ ys) → EachPair (λ i j. i ≢ j) xs
once-front [] ys p = tt
once-front (x ∷ xs) ys p = (front xs p.0, once-front xs ys p.1)
  where
    front : (zs : List ℕ) → AllByRecursion (λ y. x ≢ y) (zs ++ ys) → AllByRecursion (λ y. x ≢ y) zs
    front [] q = tt
    front (z ∷ zs) q = (q.0, front zs q.1)

once-back : (xs ys : List ℕ) → EachPair (λ i j. i ≢ j) (xs ++ ys) → EachPair (λ i j. i ≢ j) ys
once-back [] ys p = p
once-back (x ∷ xs) ys p = once-back xs ys p.1

not-among : (i : ℕ) (ys : List ℕ) → AllByRecursion (λ y. i ≢ y) ys → list_any (λ j. i == j) ys ≡ false
not-among i [] q = refl
not-among i (y ∷ ys) q = ap (λ b. b || list_any (λ j. i == j) ys) (eq-other i y (λ e. q.0 (sym e))) ∙ not-among i ys q.1

later : (P : ℕ → Type 0) (xs ys : List ℕ) → AllByRecursion P (xs ++ ys) → AllByRecursion P ys
later P [] ys q = q
later P (x ∷ xs) ys q = later P xs ys q.1

apart-lists : (i : ℕ) (xs ys : List ℕ) → EachPair (λ x y. x ≢ y) (xs ++ ys) → list_any (λ j. i == j) xs ≡ true
    → list_any (λ j. i == j) ys ≡ false
apart-lists i [] ys p e = absurd (cc)
apart-lists i (x ∷ xs) ys p e = elim (cases_eq i x) [
  | inl s ↦ not-among i ys (subst (λ (k : ℕ). AllByRecursion (λ y. k ≢ y) ys) (sym s) (later (λ y. x ≢ y) xs ys p.0))
  | inr n ↦ apart-lists i xs ys p.1 (sym (ap (λ b. b || list_any (λ j. i == j) xs) (eq-other i x (λ s. n (sym s)))) ∙ e)
]

-- a tree of a policy that names no member twice has none on both sides of an operator
pub once-tree : (t : TreeOf) → EachPair (λ i j. i ≢ j) (members_of (policy_in t)) → IsOnce t
once-tree (leaf i s made) p = tt
once-tree (branch n l r) p =
    let xs = members_of (policy_in l) in
    let ys = members_of (policy_in r) in
    let q = subst (EachPair (λ (i j : ℕ). i ≢ j)) (members-by n.op (policy_in l) (policy_in r)) p in (
      once-tree l (once-front xs ys q),
      once-tree r (once-back xs ys q),
      λ i e. named i r
          ∙ apart-lists i xs ys q (sym (named i l) ∙ e),
    )

-- ---- a tree that was handed on
module _ (tables : List LeafTable) (ports : List ℕ) (e : Policy) where
  pub built-as : (t u : Tree) → u ≡ t → IsBuilt tables ports e (tree_of t) → IsBuilt tables ports e (tree_of u)
  built-as t u same b = subst (λ (z : Tree). IsBuilt tables ports e (tree_of z)) (sym same) b

  pub built-ok : {E : Type 0} (r : Result Tree E) (t : Tree) → r ≡ Ok t
      → IfOk r (λ (z : Tree). IsBuilt tables ports e (tree_of z))
      → IsBuilt tables ports e (tree_of t)
  built-ok {E} r t is b = subst (λ (q : Result Tree E). IfOk q (λ (z : Tree). IsBuilt tables ports e (tree_of z))) is b
