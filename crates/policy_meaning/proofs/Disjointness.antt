-- The rules of tables, of expressions and of nodes are disjoint.
use Rattle.std.proofs.Common.{◌≡◌, ◌≢◌, ℕ, zero, suc, ◌+◌, Bool, true, false, ◌||◌, List, [], ◌∷◌, ◌++◌, Option, Some}
use Rattle.std.proofs.Common.{None, refl, ap, ◌∙◌, sym, subst, arith, eq-eqb, eqb-true}
use Rattle.std.specs.Prelude.{flat_map, filter_map, if◌then◌else◌, map, slice_get, ◌==◌}
use Rattle.std.specs.List.{AllByRecursion}
use Rattle.cv_io.specs.declared.leaf.Leaf.{Leaf}
use Rattle.of10_match.specs.Fields.{HeaderOf, MatchOf}
use Rattle.of10_match.specs.Matching.{at_port, both, fits, holds, meet, overlaps}
use Rattle.of10_match.specs.Normal.{IsNormal}
use Rattle.of10_match.proofs.NormalMeet.{IsNormal-both}
use Rattle.of10_actions.specs.Fields.{RewriteOf}
use Rattle.of10_actions.specs.Rewriting.{apply}
use Rattle.of10_actions.specs.declared.effects.Tail.{Tail}
use Rattle.of10_actions.specs.declared.effects.Tail.TheVariants.{Nothing, Pass, Link}
use Rattle.pull_back.specs.Pulling.{can_pull, pulled}
use Rattle.pull_back.proofs.Normality.{normal-guarded, normal-pulled}
use Rattle.pull_back.proofs.PulledMatches.{holds-pulled}
use Rattle.alg_priority.specs.Levels.{concat_level, shift_level}
use Rattle.policy_expr.specs.Policy.{Policy, member, parallel, sequential, override, members_of}
use Rattle.policy_expr.specs.Sizes.{size_of}
use Rattle.policy_meaning.specs.CentralFact.{EachMember}
use Rattle.policy_meaning.specs.Disjoint.{AreAllDisjoint, AreDisjoint, HasOrderlyTable, IsOrderly, IsOrderlyPolicy}
use Rattle.policy_meaning.specs.Disjoint.{IsTableOfMember, LeafRulesAreDisjoint, NodesAreDisjoint, RulesAreDisjoint}
use Rattle.policy_meaning.specs.Hops.{Fabric, at_node, hop_lone, hop_rule, hop_size, hopped, hops_on, leads, node}
use Rattle.policy_meaning.specs.Hops.{peers_size, without_port}
use Rattle.policy_meaning.specs.Leaf.{has_port}
use Rattle.policy_meaning.specs.LeafFact.{EachPair}
use Rattle.policy_meaning.specs.LeafRules.{cells, cut, entry_rule, has_outside, hides, in_cells, leaf_rules, miss_rule}
use Rattle.policy_meaning.specs.LeafRules.{outside_rule, rule_met}
use Rattle.policy_meaning.specs.Networks.{fabric_of, ports_of, switch_rules, table_rules, table_size}
use Rattle.policy_meaning.specs.Rules.{chain_rule, chained, chains_by, chains_with, lifted, rules_of, shifts_with}
use Rattle.policy_meaning.specs.Rules.{sum_rule, summed, sums_with}
use Rattle.policy_meaning.specs.Switches.{SwitchOf}
use Rattle.policy_meaning.specs.Walk.{arriving}
use Rattle.policy_meaning.specs.declared.leaf.LeafEntry.{LeafEntry}
use Rattle.policy_meaning.specs.declared.leaf.LeafTable.{LeafTable}
use Rattle.policy_meaning.specs.declared.network.Onward.{Onward}
use Rattle.policy_meaning.specs.declared.rule.Rule.{Rule}
use Rattle.policy_meaning.proofs.Apart.{IsMadeAfter, IsMadeOf, after-disjoint, heads, made-disjoint, narrower}
use Rattle.policy_meaning.proofs.Apart.{overlapping, pairs-append, pairs-filter_map, pairs-flat_map}
use Rattle.policy_meaning.proofs.BestLemmas.{Any, anything}
use Rattle.policy_meaning.proofs.Booleans.{fails, join_and, split_and, true_not_false}
use Rattle.policy_meaning.proofs.Cells.{narrowed, normal-cells}
use Rattle.policy_meaning.proofs.Central.{all-normal, each-member}
use Rattle.policy_meaning.proofs.Chains.{HasNormal, chain_of}
use Rattle.policy_meaning.proofs.Lists.{add-none, all-append, all-each, all-filter_map, all-flat_map, all-map}
use Rattle.policy_meaning.proofs.Lists.{all-mapped}
use Rattle.policy_meaning.proofs.Meeting.{meet_holds, some_meet, some_met, some_pulled}
use Rattle.policy_meaning.proofs.Nodes.{fits-met, fits-open, link_of, port-holds}
use Rattle.policy_meaning.proofs.Normality.{normal-at_port, normal-everything, normal-without_port}
use Rattle.policy_meaning.proofs.Pairs.{each-chain, each-shift, each-sum}

-- a rule that stands alone is made of itself
itself : (x c : Rule) → c.ancestry ≡ x.ancestry → c.m ≡ x.m → IsMadeOf x c
itself x c e f = record {
  more = [];
  leaves = e ∙ add-none x.ancestry;
  within = λ h t. subst (λ (m : MatchOf). holds m h ≡ true) f t;
}

-- the rule of a table, narrowed
met-made : (n : MatchOf) (x c : Rule) → rule_met x n ≡ Some c → IsMadeOf x c
met-made n x c e =
    let s = some_met (narrowed x) x.m n c e in
    subst (IsMadeOf x) s.1
    (record { more = []; leaves = add-none x.ancestry; within = λ h t. (meet_holds x.m n h t s.0).0 })

-- rules that are made of disjoint rules, where what one makes is disjoint
module _ (g : Rule → List Rule) (made : (x : Rule) → AllByRecursion (IsMadeOf x) (g x)) (each : (x : Rule)
    → AreAllDisjoint (g x)) where
  crossed : (x y : Rule) → AreDisjoint x y → (cs ds : List Rule) → AllByRecursion (IsMadeOf x) cs
      → AllByRecursion (IsMadeOf y) ds → AllByRecursion (λ c. AllByRecursion (AreDisjoint c) ds) cs
  crossed x y apart cs ds p q = all-map (IsMadeOf x) (λ c. AllByRecursion (AreDisjoint c) ds) cs
      (λ c pc. all-map (IsMadeOf y) (AreDisjoint c) ds (λ d qd. made-disjoint x y c d apart pc qd) q) p

  composed-disjoint : (xs : List Rule) → AreAllDisjoint xs → AreAllDisjoint (flat_map g xs)
  composed-disjoint xs p = pairs-flat_map AreDisjoint AreDisjoint Any g (λ x _. each x)
      (λ x y _ _ apart. crossed x y apart (g x) (g y) (made x) (made y)) xs (anything xs) p

-- the rules of a table

-- two rules of one leaf each, which are two leaves
record OtherLeaf (a b : Rule) : Type 0 where
  one : Leaf
  other : Leaf
  left : a.ancestry ≡ one ∷ []
  right : b.ancestry ≡ other ∷ []
  differ : one.kind ≢ other.kind

other-disjoint : (a b c d : Rule) → OtherLeaf a b → c.ancestry ≡ a.ancestry → d.ancestry ≡ b.ancestry → AreDisjoint c d
other-disjoint a b c d o e f = record {
  first =
      λ s. absurd
      (o.differ (ap (λ (l : Leaf). l.kind) (heads (sym (e ∙ o.left) ∙ (s.1 ∙ ap (λ xs. xs ++ s.0) (f ∙ o.right))))));
  second =
      λ s. absurd
      (o.differ
      (ap (λ (l : Leaf). l.kind) (sym (heads (sym (f ∙ o.right) ∙ (s.1 ∙ ap (λ xs. xs ++ s.0) (e ∙ o.left)))))));
}

-- no header is in both
abbrev Apart : MatchOf → MatchOf → Type 0
Apart m n = overlaps m n ≡ false

ports-apart : (p q : ℕ) → (q == p) ≡ false → overlaps (at_port p) (at_port q) ≡ false
ports-apart p q e =
    fails (overlaps (at_port p) (at_port q)) (λ t.
    let w = overlapping (at_port p) (at_port q) t in
    let left : (p == w.header.in_port) ≡ true = (split_and _ _ w.left).0 in
    let right : (q == w.header.in_port) ≡ true = (split_and _ _ w.right).0 in
    let same : q ≡ p = eqb-true q w.header.in_port right ∙ sym (eqb-true p w.header.in_port left) in
    true_not_false (sym (eq-eqb q p same) ∙ e))

-- the parts of a box by ports, and those of boxes
parts-apart : (box : MatchOf) (ps : List ℕ) → EachPair (λ p q. (q == p) ≡ false) ps → EachPair Apart (cut ps box)
parts-apart box ps once =
    pairs-filter_map (λ p q. (q == p) ≡ false) Apart (λ p. Unit {0}) (λ p. meet box (at_port p))
    (λ p q c d _ _ e f ne.
    let s = some_meet box (at_port p) c e in
    let t = some_meet box (at_port q) d f in
    subst (λ z. Apart z d) s.1 (subst (λ z. Apart (both box (at_port p)) z) t.1
    (narrower (λ h. h) (at_port p) (at_port q) (both box (at_port p)) (both box (at_port q))
    (λ h u. (meet_holds box (at_port p) h u s.0).1) (λ h u. (meet_holds box (at_port q) h u t.0).1)
    (ports-apart p q ne))))
    ps (all-each (λ p. Unit {0}) ps (λ p. tt)) once

-- a part of a box holds headers of the box alone
parts-within : (box : MatchOf) (ps : List ℕ)
    → AllByRecursion (λ c. (h : HeaderOf) → holds c h ≡ true → holds box h ≡ true) (cut ps box)
parts-within box ps =
    all-filter_map (λ p. Unit {0}) (λ c. (h : HeaderOf) → holds c h ≡ true
    → holds box h ≡ true) (λ p. meet box (at_port p)) ps
    (λ p c e _. let s = some_meet box (at_port p) c e in
    subst (λ z. (h : HeaderOf) → holds z h ≡ true → holds box h ≡ true) s.1
    (λ h u. (meet_holds box (at_port p) h u s.0).0))
    (all-each (λ p. Unit {0}) ps (λ p. tt))

cells-by : (b : Bool) (visible : List ℕ) (region : List MatchOf) → EachPair Apart region
    → EachPair (λ p q. (q == p) ≡ false) visible → EachPair Apart (if b then flat_map (cut visible) region else region)
cells-by false visible region d once = d
cells-by true visible region d once =
    pairs-flat_map Apart Apart (λ m. Unit {0}) (cut visible) (λ box _. parts-apart box visible once)
    (λ x y _ _ o. all-map (λ c. (h : HeaderOf) → holds c h ≡ true
    → holds x h ≡ true) (λ c. AllByRecursion (Apart c) (cut visible y)) (cut visible x)
    (λ c within. all-map (λ d. (h : HeaderOf) → holds d h ≡ true
    → holds y h ≡ true) (Apart c) (cut visible y) (λ d w. narrower (λ h. h) x y c d within w o)
    (parts-within y visible))
    (parts-within x visible))
    region (all-each (λ m. Unit {0}) region (λ m. tt)) d

module _ {A B : Type 0} (R : A → A → Type 0) (S : B → B → Type 0) (f : A → B) (up : (x y : A) → R x y
    → S (f x) (f y)) where
  pairs-map : (xs : List A) → EachPair R xs → EachPair S (map f xs)
  pairs-map [] p = tt
  pairs-map (x ∷ xs) p = (all-mapped (R x) (S (f x)) f xs (λ y r. up x y r) p.0, pairs-map xs p.1)

module _ (ports : List ℕ) (t : LeafTable) (good : IsOrderly t) where
  abbrev inside : List Rule
  inside = miss_rule t ∷ map (entry_rule t) t.entries

  abbrev place : Rule → List Rule
  place a = in_cells (cells ports t) a

  -- the rules of misses and of entries are of other leaves
  inside-other : EachPair OtherLeaf inside
  inside-other = (
    all-mapped (λ (e : LeafEntry). Unit {0}) (OtherLeaf (miss_rule t)) (entry_rule t) t.entries
        (λ e _. record {
          one = record { member = t.member; kind = 1 };
          other = record { member = t.member; kind = 2 + e.serial };
          left = refl;
          right = refl;
          differ = λ same. absurd (omega arith);
        })
        (all-each (λ (e : LeafEntry). Unit {0}) t.entries (λ e. tt)),
    pairs-map (λ (d e : LeafEntry). d.serial ≢ e.serial) OtherLeaf (entry_rule t)
        (λ d e ne. record {
          one = record { member = t.member; kind = 2 + d.serial };
          other = record { member = t.member; kind = 2 + e.serial };
          left = refl;
          right = refl;
          differ = λ same. ne (omega arith);
        })
        t.entries good.serials,
  )

  -- a placed rule is of the leaf of its rule
  placed-leaf : (a : Rule) → AllByRecursion (λ (c : Rule). c.ancestry ≡ a.ancestry) (place a)
  placed-leaf a =
      all-filter_map (λ m. Unit {0}) (λ (c : Rule). c.ancestry ≡ a.ancestry) (rule_met a) (cells ports t)
      (λ n c e _. sym (ap (λ (z : Rule). z.ancestry) (some_met (narrowed a) a.m n c e).1))
      (all-each (λ m. Unit {0}) (cells ports t) (λ m. tt))

  cell-apart : (a c d : Rule) (m n : MatchOf) → rule_met a m ≡ Some c → rule_met a n ≡ Some d → Apart m n
      → AreDisjoint c d
  cell-apart a c d m n e f o =
      let s = some_met (narrowed a) a.m m c e in
      let u = some_met (narrowed a) a.m n d f in
      let never : overlaps c.m d.m ≡ false =
      subst (λ (z : Rule). overlaps z.m d.m ≡ false) s.1 (subst (λ (z : Rule). overlaps (both a.m m) z.m ≡ false) u.1
      (narrower (λ h. h) m n (both a.m m) (both a.m n) (λ h t. (meet_holds a.m m h t s.0).1)
      (λ h t. (meet_holds a.m n h t u.0).1) o)) in
      record { first = λ _. never; second = λ _. never }

  -- of one rule in the cells
  placed-disjoint : (a : Rule) → AreAllDisjoint (place a)
  placed-disjoint a =
      pairs-filter_map Apart AreDisjoint (λ m. Unit {0}) (rule_met a) (λ m n c d _ _ e f o. cell-apart a c d m n e f o)
      (cells ports t) (all-each (λ m. Unit {0}) (cells ports t) (λ m. tt))
      (cells-by (hides ports t) t.visible t.region good.boxes good.visible)

  all-placed : AreAllDisjoint (flat_map place inside)
  all-placed =
      pairs-flat_map OtherLeaf AreDisjoint Any place (λ a _. placed-disjoint a)
      (λ a b _ _ o. all-map (λ (c : Rule). c.ancestry ≡ a.ancestry) (λ c. AllByRecursion (AreDisjoint c) (place b))
      (place a)
      (λ c e. all-map (λ (d : Rule). d.ancestry ≡ b.ancestry) (AreDisjoint c) (place b)
      (λ d f. other-disjoint a b c d o e f) (placed-leaf b)) (placed-leaf a))
      inside (anything inside) inside-other

  -- what is outside is of another leaf than all placed rules
  outside-other : AllByRecursion (OtherLeaf (outside_rule t)) inside
  outside-other = (
    record {
      one = record { member = t.member; kind = 0 };
      other = record { member = t.member; kind = 1 };
      left = refl;
      right = refl;
      differ = λ same. absurd (omega arith);
    },
    all-mapped (λ (e : LeafEntry). Unit {0}) (OtherLeaf (outside_rule t)) (entry_rule t) t.entries
        (λ e _. record {
          one = record { member = t.member; kind = 0 };
          other = record { member = t.member; kind = 2 + e.serial };
          left = refl;
          right = refl;
          differ = λ same. absurd (omega arith);
        })
        (all-each (λ (e : LeafEntry). Unit {0}) t.entries (λ e. tt)),
  )

  outside-apart : AllByRecursion (AreDisjoint (outside_rule t)) (flat_map place inside)
  outside-apart =
      all-flat_map (OtherLeaf (outside_rule t)) (AreDisjoint (outside_rule t)) place inside
      (λ a o. all-map (λ (c : Rule). c.ancestry ≡ a.ancestry) (AreDisjoint (outside_rule t)) (place a)
      (λ c e. other-disjoint (outside_rule t) a (outside_rule t) c o refl e) (placed-leaf a)) outside-other

  with-outside : (b : Bool) → AreAllDisjoint ((if b then outside_rule t ∷ [] else []) ++ flat_map place inside)
  with-outside true = (outside-apart, all-placed)
  with-outside false = all-placed

pub leaf-disjoint : LeafRulesAreDisjoint
leaf-disjoint ports t good = with-outside ports t good (has_outside ports t)

-- the leaf that an ancestry begins with is of one of these members
pub record Starts (members : List ℕ) (r : Rule) : Type 0 where
  pub leaf : Leaf
  pub rest : List Leaf
  pub is : r.ancestry ≡ leaf ∷ rest
  pub among : has_port members leaf.member ≡ true

or-left : (a b : Bool) → a ≡ true → (a || b) ≡ true
or-left a b e = rw e

either : (a b c : Bool) → (b ≡ true → c ≡ true) → (a || b) ≡ true → (a || c) ≡ true
either true b c f e = refl
either false b c f e = f e

among-left : (xs ys : List ℕ) (p : ℕ) → has_port xs p ≡ true → has_port (xs ++ ys) p ≡ true
among-left [] ys p e = cc
among-left (x ∷ xs) ys p e = either (x == p) (has_port xs p) (has_port (xs ++ ys) p) (λ t. among-left xs ys p t) e

or-second : (a b : Bool) → b ≡ true → (a || b) ≡ true
or-second true b e = refl
or-second false b e = e

among-right : (xs ys : List ℕ) (p : ℕ) → has_port ys p ≡ true → has_port (xs ++ ys) p ≡ true
among-right [] ys p e = e
among-right (x ∷ xs) ys p e = or-second (x == p) (has_port (xs ++ ys) p) (among-right xs ys p e)

one-or : {P : Type 0} (a b : Bool) → (a ≡ true → P) → (b ≡ true → P) → (a || b) ≡ true → P
one-or true b f g e = f refl
one-or false b f g e = g e

none-among : (x : ℕ) (ys : List ℕ) → AllByRecursion (λ y. x ≢ y) ys → has_port ys x ≡ true → ⊥
none-among x [] n e = cc
none-among x (y ∷ ys) n e = one-or (y == x) (has_port ys x) (λ t. n.0 (sym (eqb-true y x t)))
    (λ t. none-among x ys n.1 t) e

-- no member is among both of two parts
not-both : (xs ys : List ℕ) (p : ℕ) → EachPair (λ i j. i ≢ j) (xs ++ ys) → has_port xs p ≡ true → has_port ys p ≡ true
    → ⊥
not-both [] ys p once e f = cc
not-both (x ∷ xs) ys p once e f =
    one-or (x == p) (has_port xs p)
    (λ t. none-among x (xs ++ ys) once.0
    (among-right xs ys x (subst (λ z. has_port ys z ≡ true) (sym (eqb-true x p t)) f)))
    (λ t. not-both xs ys p once.1 t f) e

starts-left : (ms ns : List ℕ) (a c : Rule) (more : List Leaf) → Starts ms a → c.ancestry ≡ a.ancestry ++ more
    → Starts (ms ++ ns) c
starts-left ms ns a c more s e = record {
  leaf = s.leaf;
  rest = s.rest ++ more;
  is = e
      ∙ ap (λ xs. xs ++ more) s.is;
  among = among-left ms ns s.leaf.member s.among;
}

starts-right : (ms ns : List ℕ) (a : Rule) → Starts ns a → Starts (ms ++ ns) a
starts-right ms ns a s = record {
  leaf = s.leaf;
  rest = s.rest;
  is = s.is;
  among = among-right ms ns s.leaf.member s.among;
}

-- rules of two parts are disjoint
parts-disjoint : (ms ns : List ℕ) (a b : Rule) → EachPair (λ i j. i ≢ j) (ms ++ ns) → Starts ms a → Starts ns b
    → AreDisjoint a b
parts-disjoint ms ns a b once s t = record {
  first = λ e. absurd (never (heads (sym s.is ∙ (e.1 ∙ ap (λ xs. xs ++ e.0) t.is))));
  second = λ e. absurd (never (sym (heads (sym t.is ∙ (e.1 ∙ ap (λ xs. xs ++ e.0) s.is)))));
}
  where
    never : s.leaf ≡ t.leaf → ⊥
    never same = not-both ms ns t.leaf.member once (subst (λ (l : Leaf). has_port ms l.member ≡ true) same s.among)
        t.among

once-left : (xs ys : List ℕ) → EachPair (λ i j. i ≢ j) (xs ++ ys) → EachPair (λ i j. i ≢ j) xs
once-left [] ys p = tt
once-left (x ∷ xs) ys p = (front xs p.0, once-left xs ys p.1)
  where
    front : (zs : List ℕ) → AllByRecursion (λ y. x ≢ y) (zs ++ ys) → AllByRecursion (λ y. x ≢ y) zs
    front [] q = tt
    front (z ∷ zs) q = (q.0, front zs q.1)

once-right : (xs ys : List ℕ) → EachPair (λ i j. i ≢ j) (xs ++ ys) → EachPair (λ i j. i ≢ j) ys
once-right [] ys p = p
once-right (x ∷ xs) ys p = once-right xs ys p.1

-- what is kept of a member's rules
pub record AreKept (i : ℕ) (rules : List Rule) : Type 0 where
  pub disjoint : AreAllDisjoint rules
  pub normal : AllByRecursion HasNormal rules
  pub starts : AllByRecursion (Starts (i ∷ [])) rules

module _ (sizes : ℕ → ℕ) (rules : ℕ → List Rule) where
  -- a member's rules are so
  abbrev Kept : ℕ → Type 0
  Kept i = AreKept i (rules i)

  abbrev of : Policy → List Rule
  of e = rules_of sizes rules e

  each-starts : (e : Policy) → EachMember Kept e → AllByRecursion (Starts (members_of e)) (of e)
  each-starts (member i) p = p.starts
  each-starts (parallel a b) p =
      each-sum (Starts (members_of a)) Any (Starts (members_of a ++ members_of b))
      (λ x y s _ o. starts-left (members_of a) (members_of b) x (summed x y (both x.m y.m)) y.ancestry s refl)
      (of a) (of b) (each-starts a p.0) (anything (of b))
  each-starts (sequential a b) p =
      each-chain (Starts (members_of a)) Any (Starts (members_of a ++ members_of b)) (size_of sizes b)
      (λ x s. starts-left (members_of a) (members_of b) x (lifted (concat_level x.level 0 (size_of sizes b)) x) [] s
      (add-none x.ancestry))
      (λ x y r t s _ o. starts-left (members_of a) (members_of b) x
      (chained (size_of sizes b) r x y (both x.m (pulled r y.m))) y.ancestry s refl)
      (of a) (of b) (each-starts a p.0) (anything (of b))
  each-starts (override a b) p =
      each-shift (Starts (members_of a)) Any (Starts (members_of a ++ members_of b)) (size_of sizes b)
      (λ x s. starts-left (members_of a) (members_of b) x (lifted (shift_level x.level (size_of sizes b)) x) [] s
      (add-none x.ancestry))
      (of a) (of b) (each-starts a p.0)
      (all-map (Starts (members_of b)) (Starts (members_of a ++ members_of b)) (of b)
      (λ x s. starts-right (members_of a) (members_of b) x s) (each-starts b p.1))

  normal-of : (e : Policy) → EachMember Kept e → AllByRecursion HasNormal (of e)
  normal-of e p = all-normal sizes rules e
      (each-member Kept (λ i. AllByRecursion HasNormal (rules i)) (λ i k. k.normal) e p)

  -- what one rule of the left of `+` makes
  module _ (bs : List Rule) (apart : AreAllDisjoint bs) where
    sum-made : (x : Rule) → AllByRecursion (IsMadeOf x) (sums_with bs x)
    sum-made x =
        all-filter_map Any (IsMadeOf x) (sum_rule x) bs
        (λ b c e _. let s = some_met (summed x b) x.m b.m c e in
        subst (IsMadeOf x) s.1
        (record { more = b.ancestry; leaves = refl; within = λ h t. (meet_holds x.m b.m h t s.0).0 })) (anything bs)

    sum-after : (x b c : Rule) → sum_rule x b ≡ Some c → IsMadeAfter x.ancestry (λ h. h) b c
    sum-after x b c e = let s = some_met (summed x b) x.m b.m c e in
        subst (IsMadeAfter x.ancestry (λ h. h) b) s.1
        (record { leaves = refl; within = λ h t. (meet_holds x.m b.m h t s.0).1 })

    sum-each : (x : Rule) → AreAllDisjoint (sums_with bs x)
    sum-each x =
        pairs-filter_map AreDisjoint AreDisjoint Any (sum_rule x)
        (λ b d c e _ _ u v o. after-disjoint x.ancestry (λ h. h) b d c e o (sum-after x b c u) (sum-after x d e v))
        bs (anything bs) apart

  -- and of `>>`
  module _ (size : ℕ) (bs : List Rule) (apart : AreAllDisjoint bs) (normal : AllByRecursion HasNormal bs) where
    chain-made-by : (x : Rule) (t : Tail) → AllByRecursion (IsMadeOf x) (chains_by t size bs x)
    chain-made-by x Nothing = (itself x (lifted _ x) refl refl, tt)
    chain-made-by x (Link r p) = (itself x (lifted _ x) refl refl, tt)
    chain-made-by x (Pass r) =
        all-filter_map Any (IsMadeOf x) (chain_rule size r x) bs
        (λ b c e _. let s : (can_pull r b.m ≡ true) × (overlaps x.m (pulled r b.m) ≡ true)
        × (chain_of size r x b ≡ c) = some_pulled (chained size r x b) x.m b.m r c e in
        subst (IsMadeOf x) s.2
        (record { more = b.ancestry; leaves = refl; within = λ h t. (meet_holds x.m (pulled r b.m) h t s.1).0 }))
        (anything bs)

    chain-after : (x : Rule) (r : RewriteOf) (b c : Rule) → HasNormal b → chain_rule size r x b ≡ Some c
        → IsMadeAfter x.ancestry (apply r) b c
    chain-after x r b c n e =
        let s : (can_pull r b.m ≡ true) × (overlaps x.m (pulled r b.m) ≡ true)
        × (chain_of size r x b ≡ c) = some_pulled (chained size r x b) x.m b.m r c e in
        subst (IsMadeAfter x.ancestry (apply r) b) s.2 (record {
          leaves = refl;
          within = λ h t. sym (holds-pulled r b.m h (normal-guarded b.m n))
              ∙ join_and _ _ (meet_holds x.m (pulled r b.m) h t s.1).1 s.0;
        })

    chain-each-by : (x : Rule) (t : Tail) → AreAllDisjoint (chains_by t size bs x)
    chain-each-by x Nothing = (tt, tt)
    chain-each-by x (Link r p) = (tt, tt)
    chain-each-by x (Pass r) =
        pairs-filter_map AreDisjoint AreDisjoint HasNormal (chain_rule size r x)
        (λ b d c e n m u v o. after-disjoint x.ancestry (apply r) b d c e o (chain-after x r b c n u)
        (chain-after x r d e m v)) bs normal apart

  shift-made-by : (size : ℕ) (x : Rule) (b : Bool) → AllByRecursion (IsMadeOf x) (if b then lifted size x ∷ [] else [])
  shift-made-by size x true = (itself x (lifted size x) refl refl, tt)
  shift-made-by size x false = tt

  shift-each-by : (size : ℕ) (x : Rule) (b : Bool) → AreAllDisjoint (if b then lifted size x ∷ [] else [])
  shift-each-by size x true = (tt, tt)
  shift-each-by size x false = tt

  shift-starts : (ms : List ℕ) (level : ℕ) (x : Rule) → Starts ms x → (t : Bool)
      → AllByRecursion (Starts ms) (if t then lifted level x ∷ [] else [])
  shift-starts ms level x s true = (record { leaf = s.leaf; rest = s.rest; is = s.is; among = s.among }, tt)
  shift-starts ms level x s false = tt

  pub rules-disjoint : (e : Policy) → EachPair (λ i j. i ≢ j) (members_of e) → EachMember Kept e → AreAllDisjoint (of e)
  rules-disjoint (member i) once p = p.disjoint
  rules-disjoint (parallel a b) once p =
      let right = rules-disjoint b (once-right (members_of a) (members_of b) once) p.1 in
      composed-disjoint (sums_with (of b)) (sum-made (of b) right) (sum-each (of b) right) (of a)
      (rules-disjoint a (once-left (members_of a) (members_of b) once) p.0)
  rules-disjoint (sequential a b) once p =
      let right = rules-disjoint b (once-right (members_of a) (members_of b) once) p.1 in
      let normal = normal-of b p.1 in
      composed-disjoint (chains_with (size_of sizes b) (of b))
      (λ x. chain-made-by (size_of sizes b) (of b) right normal x x.tail)
      (λ x. chain-each-by (size_of sizes b) (of b) right normal x x.tail)
      (of a) (rules-disjoint a (once-left (members_of a) (members_of b) once) p.0)
  rules-disjoint (override a b) once p =
      let left = flat_map (shifts_with (size_of sizes b)) (of a) in
      let starts : AllByRecursion (Starts (members_of a)) left =
      all-flat_map (Starts (members_of a)) (Starts (members_of a)) (shifts_with (size_of sizes b)) (of a)
      (λ x s. shift-starts (members_of a) (shift_level x.level (size_of sizes b)) x s x.touched)
      (each-starts a p.0) in
      pairs-append AreDisjoint left (of b)
      (composed-disjoint (shifts_with (size_of sizes b)) (λ x. shift-made-by _ x x.touched)
      (λ x. shift-each-by _ x x.touched) (of a)
      (rules-disjoint a (once-left (members_of a) (members_of b) once) p.0))
      (rules-disjoint b (once-right (members_of a) (members_of b) once) p.1)
      (all-map (Starts (members_of a)) (λ x. AllByRecursion (AreDisjoint x) (of b)) left
      (λ x s. all-map (Starts (members_of b)) (AreDisjoint x) (of b)
      (λ y t. parts-disjoint (members_of a) (members_of b) x y once s t) (each-starts b p.1)) starts)

-- the rules of a member's table
module _ (ports : List ℕ) (i : ℕ) (t : LeafTable) (good : IsTableOfMember i t) where
  placed-normal : (a : Rule) → HasNormal a → AllByRecursion HasNormal (in_cells (cells ports t) a)
  placed-normal a n =
      all-filter_map IsNormal HasNormal (rule_met a) (cells ports t)
      (λ m c e k. let s = some_met (narrowed a) a.m m c e in subst HasNormal s.1 (IsNormal-both a.m m s.0 n k))
      (normal-cells ports t good.normal.boxes)

  outer-normal : (b : Bool) → AllByRecursion HasNormal (if b then outside_rule t ∷ [] else [])
  outer-normal true = (normal-everything, tt)
  outer-normal false = tt

  table-normal : AllByRecursion HasNormal (leaf_rules ports t)
  table-normal =
      all-append HasNormal (if has_outside ports t then outside_rule t ∷ [] else [])
      (flat_map (in_cells (cells ports t)) (miss_rule t ∷ map (entry_rule t) t.entries))
      (outer-normal (has_outside ports t))
      (all-flat_map HasNormal HasNormal (in_cells (cells ports t)) (miss_rule t ∷ map (entry_rule t) t.entries)
      placed-normal (
        normal-everything,
        all-mapped (λ (e : LeafEntry). IsNormal e.m) HasNormal (entry_rule t) t.entries (λ e n. n)
            good.normal.entries,
      ))

  -- they begin with a leaf of the member
  own : (r : Rule) (kind : ℕ) → r.ancestry ≡ record { member = t.member; kind = kind } ∷ [] → Starts (i ∷ []) r
  own r kind e = record {
    leaf = record { member = t.member; kind = kind };
    rest = [];
    is = e;
    among = or-left (i == t.member) false (eq-eqb i t.member (sym good.member));
  }

  placed-own : (a : Rule) → Starts (i ∷ []) a → AllByRecursion (Starts (i ∷ [])) (in_cells (cells ports t) a)
  placed-own a s =
      all-filter_map (λ m. Unit {0}) (Starts (i ∷ [])) (rule_met a) (cells ports t)
      (λ m c e _. let q = some_met (narrowed a) a.m m c e in
      subst (Starts (i ∷ [])) q.1 (record { leaf = s.leaf; rest = s.rest; is = s.is; among = s.among }))
      (all-each (λ m. Unit {0}) (cells ports t) (λ m. tt))

  outer-own : (b : Bool) → AllByRecursion (Starts (i ∷ [])) (if b then outside_rule t ∷ [] else [])
  outer-own true = (own (outside_rule t) 0 refl, tt)
  outer-own false = tt

  table-starts : AllByRecursion (Starts (i ∷ [])) (leaf_rules ports t)
  table-starts =
      all-append (Starts (i ∷ [])) (if has_outside ports t then outside_rule t ∷ [] else [])
      (flat_map (in_cells (cells ports t)) (miss_rule t ∷ map (entry_rule t) t.entries))
      (outer-own (has_outside ports t))
      (all-flat_map (Starts (i ∷ [])) (Starts (i ∷ [])) (in_cells (cells ports t))
      (miss_rule t ∷ map (entry_rule t) t.entries) placed-own (
        own (miss_rule t) 1 refl,
        all-mapped (λ (e : LeafEntry). Unit {0}) (Starts (i ∷ [])) (entry_rule t) t.entries
            (λ e _. own (entry_rule t e) (2 + e.serial) refl)
            (all-each (λ (e : LeafEntry). Unit {0}) t.entries (λ e. tt)),
      ))

  table-kept : AreKept i (leaf_rules ports t)
  table-kept = record { disjoint = leaf-disjoint ports t good.orderly; normal = table-normal; starts = table-starts }

member-kept : (ports : List ℕ) (i : ℕ) (o : Option LeafTable) → ((t : LeafTable) → o ≡ Some t → IsTableOfMember i t)
    → AreKept i (table_rules ports o)
member-kept ports i None good = record { disjoint = tt; normal = tt; starts = tt }
member-kept ports i (Some t) good = table-kept ports i t (good t refl)

-- the rules of an expression
module _ (tables : List LeafTable) (ports : List ℕ) (e : Policy) (good : IsOrderlyPolicy tables e) where
  abbrev sizes-of : ℕ → ℕ
  sizes-of i = table_size (slice_get tables i)

  abbrev leaves-of : ℕ → List Rule
  leaves-of i = table_rules ports (slice_get tables i)

  all-kept : EachMember (Kept sizes-of leaves-of) e
  all-kept = each-member (HasOrderlyTable tables) (Kept sizes-of leaves-of)
      (λ i t. member-kept ports i (slice_get tables i) t) e good.members

  pub expression-disjoint : AreAllDisjoint (rules_of sizes-of leaves-of e)
  expression-disjoint = rules-disjoint sizes-of leaves-of e good.once all-kept

  pub expression-normal : AllByRecursion HasNormal (rules_of sizes-of leaves-of e)
  expression-normal = normal-of sizes-of leaves-of e all-kept

pub rules-are-disjoint : RulesAreDisjoint
rules-are-disjoint tables ports e good = expression-disjoint tables ports e good

-- the rules of nodes

-- the rule's match is normal, and holds headers that come by a port
pub record IsNormalAt (at : ℕ) (b : Rule) : Type 0 where
  pub is_normal : IsNormal b.m
  pub port : fits b.m.in_port at ≡ true

met-normal : (port : ℕ) (x y : Rule) → rule_met x (at_port port) ≡ Some y → HasNormal x → IsNormalAt port y
met-normal port x y e n =
    let s = some_met (narrowed x) x.m (at_port port) y e in
    let a : IsNormalAt port (narrowed x (both x.m (at_port port))) =
    record {
      is_normal = IsNormal-both x.m (at_port port) s.0 n (normal-at_port port);
      port = fits-met x.m.in_port port (split_and _ _ s.0).0;
    } in
    subst (λ (z : Rule). IsNormalAt port z) s.1 a

module _ (size : ℕ) (r : RewriteOf) (a x y : Rule) (e : hop_rule size r a x ≡ Some y) where
  linked : (can_pull r (without_port x.m) ≡ true) × (overlaps a.m (pulled r (without_port x.m)) ≡ true)
      × (link_of size r a x ≡ y)
  linked = some_pulled (hopped size r a x) a.m (without_port x.m) r y e

  linked-normal : (port to : ℕ) → IsNormalAt port a → IsNormalAt to x → IsNormalAt port y
  linked-normal port to g k =
      let b : IsNormalAt port (link_of size r a x) = record {
        is_normal = IsNormal-both a.m (pulled r (without_port x.m)) linked.1 g.is_normal
            (normal-pulled r (without_port x.m) (normal-without_port x.m k.is_normal));
        port = fits-open a.m.in_port port g.port;
      } in
      subst (λ (z : Rule). IsNormalAt port z) linked.2 b

  linked-made : IsMadeOf a y
  linked-made = subst (IsMadeOf a) linked.2
      (record {
        more = x.ancestry;
        leaves = refl;
        within = λ h t. (meet_holds a.m (pulled r (without_port x.m)) h t linked.1).0;
      })

  linked-after : (to : ℕ) → IsNormalAt to x → IsMadeAfter a.ancestry (arriving r to) x y
  linked-after to k =
      subst (IsMadeAfter a.ancestry (arriving r to) x) linked.2 (record {
        leaves = refl;
        within = λ h t.
            port-holds x.m (apply r h) to k.port
            ∙ (sym
            (holds-pulled r (without_port x.m) h
            (normal-guarded (without_port x.m) (normal-without_port x.m k.is_normal)))
            ∙ join_and _ _ (meet_holds a.m (pulled r (without_port x.m)) h t linked.1).1 linked.0);
      })

module _ (f : Fabric) (normal : (v : ℕ) → AllByRecursion HasNormal (f.rules v)) (apart : (v : ℕ)
    → AreAllDisjoint (f.rules v)) where
  abbrev on_port : ℕ → Rule → Option Rule
  on_port port a = rule_met a (at_port port)

  abbrev makes : ℕ → ℕ → ℕ → Rule → List Rule
  makes n v port a = hops_on (leads a.tail (f.links v) port) (node f n) (peers_size (hop_size f n) (f.links v))
      (at_node v port a)

  starting : (v port : ℕ) → AllByRecursion (IsNormalAt port) (filter_map (on_port port) (f.rules v))
  starting v port = all-filter_map HasNormal (IsNormalAt port) (on_port port) (f.rules v)
      (λ x y e n. met-normal port x y e n) (normal v)

  module _ (n : ℕ) (nodes : (u port : ℕ) → AllByRecursion (IsNormalAt port) (node f n u port)) where
    makes-normal : (v port size : ℕ) (x : Rule) → IsNormalAt port x → (o : Option Onward)
        → AllByRecursion (IsNormalAt port) (hops_on o (node f n) size (at_node v port x))
    makes-normal v port size x g None = (record { is_normal = g.is_normal; port = g.port }, tt)
    makes-normal v port size x g (Some on) =
        all-filter_map (IsNormalAt on.place.port) (IsNormalAt port) (hop_rule size on.rewrite (at_node v port x))
        (node f n on.place.v on.place.port)
        (λ b y e k. linked-normal size on.rewrite (at_node v port x) b y e port on.place.port
        (record { is_normal = g.is_normal; port = g.port }) k) (nodes on.place.v on.place.port)

    makes-made : (v port size : ℕ) (x : Rule) (o : Option Onward)
        → AllByRecursion (IsMadeOf x) (hops_on o (node f n) size (at_node v port x))
    makes-made v port size x None = (itself x (hop_lone size (at_node v port x)) refl refl, tt)
    makes-made v port size x (Some on) =
        all-filter_map Any (IsMadeOf x) (hop_rule size on.rewrite (at_node v port x))
        (node f n on.place.v on.place.port)
        (λ b y e _. let m = linked-made size on.rewrite (at_node v port x) b y e in
        record { more = m.more; leaves = m.leaves; within = m.within })
        (anything (node f n on.place.v on.place.port))

    module _ (before : (u port : ℕ) → AreAllDisjoint (node f n u port)) where
      makes-each : (v port size : ℕ) (x : Rule) (o : Option Onward)
          → AreAllDisjoint (hops_on o (node f n) size (at_node v port x))
      makes-each v port size x None = (tt, tt)
      makes-each v port size x (Some on) =
          pairs-filter_map AreDisjoint AreDisjoint (IsNormalAt on.place.port)
          (hop_rule size on.rewrite (at_node v port x))
          (λ b d y z p q e g o.
          after-disjoint x.ancestry (arriving on.rewrite on.place.port) b d y z o
          (linked-after size on.rewrite (at_node v port x) b y e on.place.port p)
          (linked-after size on.rewrite (at_node v port x) d z g on.place.port q))
          (node f n on.place.v on.place.port) (nodes on.place.v on.place.port) (before on.place.v on.place.port)

      step-disjoint : (v port : ℕ) → AreAllDisjoint (flat_map (makes n v port) (filter_map (on_port port) (f.rules v)))
      step-disjoint v port =
          composed-disjoint (makes n v port)
          (λ x. makes-made v port (peers_size (hop_size f n) (f.links v)) x (leads x.tail (f.links v) port))
          (λ x. makes-each v port (peers_size (hop_size f n) (f.links v)) x (leads x.tail (f.links v) port))
          (filter_map (on_port port) (f.rules v))
          (pairs-filter_map AreDisjoint AreDisjoint Any (on_port port)
          (λ x y c d _ _ e g o. made-disjoint x y c d o (met-made (at_port port) x c e)
          (met-made (at_port port) y d g)) (f.rules v) (anything (f.rules v)) (apart v))

  pub node-normal : (n v port : ℕ) → AllByRecursion (IsNormalAt port) (node f n v port)
  node-normal zero v port = (record { is_normal = normal-everything; port = refl }, tt)
  node-normal (suc n) v port =
      all-flat_map (IsNormalAt port) (IsNormalAt port) (makes n v port) (filter_map (on_port port) (f.rules v))
      (λ x g. makes-normal n (node-normal n) v port (peers_size (hop_size f n) (f.links v)) x g
      (leads x.tail (f.links v) port)) (starting v port)

  pub node-disjoint : (n v port : ℕ) → AreAllDisjoint (node f n v port)
  node-disjoint zero v port = (tt, tt)
  node-disjoint (suc n) v port = step-disjoint n (node-normal n) (node-disjoint n) v port

module _ (tables : List LeafTable) where
  some-normal : (o : Option SwitchOf) → ((s : SwitchOf) → o ≡ Some s → IsOrderlyPolicy tables s.expr)
      → AllByRecursion HasNormal (switch_rules tables o)
  some-normal None good = tt
  some-normal (Some s) good = expression-normal tables (ports_of s) s.expr (good s refl)

  some-disjoint : (o : Option SwitchOf) → ((s : SwitchOf) → o ≡ Some s → IsOrderlyPolicy tables s.expr)
      → AreAllDisjoint (switch_rules tables o)
  some-disjoint None good = tt
  some-disjoint (Some s) good = expression-disjoint tables (ports_of s) s.expr (good s refl)

pub nodes-are-disjoint : NodesAreDisjoint
nodes-are-disjoint net good n v port =
    node-disjoint (fabric_of net) (λ u. some-normal net.tables (slice_get net.switches u) (good u))
    (λ u. some-disjoint net.tables (slice_get net.switches u) (good u)) n v port
