-- The steps at a node, by the rules alone.
use Rattle.std.proofs.Common.{◌≡◌, ℕ, ◌+◌, ◌<◌, ◌≤◌, Bool, true, false, cond, List, [], ◌∷◌, refl, sym, ap, ◌∙◌, subst}
use Rattle.std.proofs.Common.{length, map, arith}
use Rattle.std.specs.Prelude.{IsPermutation, count_by, filter, flat_map, sum_by}
use Rattle.std.specs.List.{AllByRecursion}
use Rattle.std.proofs.lemmas.List.Sums.{sum_by-append, sum_by-cons}
use Rattle.std.proofs.lemmas.List.Sorted.{sum_by-IsPermutation}
use Rattle.policy_meaning.specs.Hops.{Fabric, node}
use Rattle.policy_meaning.specs.declared.network.Place.{Place}
use Rattle.policy_meaning.specs.declared.rule.Rule.{Rule}
use Rattle.rule_ancestry.specs.Holding.{Held, is_outside, item_of}
use Rattle.made_rules.specs.Rules.{rules_in}
use Rattle.hop_rules.specs.Climbing.{came_to}
use Rattle.hop_rules.specs.Counts.{could_meet, meets_here, meets_there, node_steps, row_steps}
use Rattle.hop_rules.specs.Handed.{GivenOf}
use Rattle.hop_rules.specs.Levels.{IsGiven, IsRow, given_at, node_cost, turn_at}
use Rattle.hop_rules.specs.Links.{exits}
use Rattle.hop_rules.specs.Nodes.{IsOf, NodeOf, arrival, arrivals, arriving, could, held_at}
use Rattle.hop_rules.specs.Turns.{came_at, came_there, come_at, left_cost, right_cost, stayed}
use Rattle.hop_rules.specs.Under.{under}
use Rattle.hop_rules.specs.declared.exits.Exit.{Exit}
use Rattle.hop_rules.specs.declared.exits.LinkEnd.{LinkEnd}
use Rattle.hop_rules.specs.declared.level.Event.{Event}
use Rattle.hop_rules.specs.declared.level.Stand.{Stand}
use Rattle.hop_rules.specs.declared.node.Turn.{Turn}
use Rattle.hop_rules.proofs.Stages.{nodes-at}

-- ---- sums
module _ {X Y : Type 0} (f : X → Y) (g : Y → ℕ) where
  pub sum-map : (xs : List X) → sum_by g (map f xs) ≡ sum_by (λ x. g (f x)) xs
  sum-map [] = refl
  sum-map (x ∷ xs) = sum_by-cons g (f x) (map f xs) ∙ ap (λ n. g (f x) + n) (sum-map xs)
      ∙ sym (sum_by-cons (λ x. g (f x)) x xs)

module _ {X Y : Type 0} (f : X → List Y) (g : Y → ℕ) where
  pub sum-flat : (xs : List X) → sum_by g (flat_map f xs) ≡ sum_by (λ x. sum_by g (f x)) xs
  sum-flat [] = refl
  sum-flat (x ∷ xs) = sum_by-append g (f x) (flat_map f xs) ∙ ap (λ n. sum_by g (f x) + n) (sum-flat xs)
      ∙ sym (sum_by-cons (λ x. sum_by g (f x)) x xs)

module _ {X : Type 0} (f g : X → ℕ) where
  pub sum-same : (xs : List X) → AllByRecursion (λ x. f x ≡ g x) xs → sum_by f xs ≡ sum_by g xs
  sum-same [] a = refl
  sum-same (x ∷ xs) a = sum_by-cons f x xs ∙ (λ i. a.0 i + sum-same xs a.1 i) ∙ sym (sum_by-cons g x xs)

  pub sum-less : (xs : List X) → AllByRecursion (λ x. f x ≤ g x) xs → sum_by f xs ≤ sum_by g xs
  sum-less [] a = omega arith
  sum-less (x ∷ xs) a = let h = a.0 in let t = sum-less xs a.1 in let p = sum_by-cons f x xs in let q =
      sum_by-cons g x xs in omega arith

  pub all-of : (xs : List X) → ((x : X) → f x ≤ g x) → AllByRecursion (λ x. f x ≤ g x) xs
  all-of [] h = tt
  all-of (x ∷ xs) h = (h x, all-of xs h)

-- a part has no more
module _ {X : Type 0} (p q : X → Bool) where
  count-cond : (x : X) (xs : List X) (t : Bool) → count_by p (filter q xs) ≤ count_by p xs
      → count_by p (cond t (x ∷ filter q xs) (filter q xs)) ≤ count_by p (x ∷ xs)
  count-cond x xs true h = let a = sum_by-cons (λ y. cond (p y) 1 0) x xs in let b =
      sum_by-cons (λ y. cond (p y) 1 0) x (filter q xs) in omega arith
  count-cond x xs false h = let a = sum_by-cons (λ y. cond (p y) 1 0) x xs in omega arith

  pub count-part : (xs : List X) → count_by p (filter q xs) ≤ count_by p xs
  count-part [] = omega arith
  count-part (x ∷ xs) = count-cond x xs (q x) (count-part xs)

-- a count by the items alone, in any order
pub count-items : {R : Type 0} (p : R → Bool) (hs : List (Held R)) (rs : List R) → IsPermutation (map item_of hs) rs
    → count_by (λ (h : Held R). p h.item) hs ≡ count_by p rs
count-items p hs rs e = sym (sum-map item_of (λ r. cond (p r) 1 0) hs)
    ∙ sym (sum_by-IsPermutation (λ r. cond (p r) 1 0) (map item_of hs) rs e)

-- ---- at one node
module _ (f : Fabric) (n : ℕ) (at : Place) (E : List Exit) (below : List NodeOf) where
  there-one : (h : Held Rule) (e : Exit) → IsOf f n below e
      → count_by (could at E h) (arriving below e)
      ≡ count_by (could_meet at E e.place h.item) (node f n e.peer.v e.peer.port)
  there-one h e o =
      sum-map (arrival e.place) (λ y. cond (could at E h y) 1 0) (rules_in (held_at below e.place))
      ∙ count-items (could_meet at E e.place h.item) (rules_in (held_at below e.place)) (node f n e.peer.v e.peer.port)
      o

  there-all : (h : Held Rule) (es : List Exit) → AllByRecursion (IsOf f n below) es
      → AllByRecursion (λ (e : Exit). count_by (could at E h) (arriving below e)
      ≡ count_by (could_meet at E e.place h.item) (node f n e.peer.v e.peer.port)) es
  there-all h [] a = tt
  there-all h (e ∷ es) a = (there-one h e a.0, there-all h es a.1)

  -- what one could meet where all exits lead
  pub meets-all : (h : Held Rule) → AllByRecursion (IsOf f n below) E
      → count_by (could at E h) (arrivals below E) ≡ meets_there f n at E h.item
  meets-all h a = sum-flat (arriving below) (λ y. cond (could at E h y) 1 0) E
      ∙ sum-same (λ (e : Exit). count_by (could at E h) (arriving below e))
      (λ (e : Exit). count_by (could_meet at E e.place h.item) (node f n e.peer.v e.peer.port)) E (there-all h E a)

  left-each : (a : AllByRecursion (IsOf f n below) E) (hs : List (Held Rule))
      → AllByRecursion (λ (h : Held Rule). 1 + count_by (could at E h) (arrivals below E)
      ≡ 1 + meets_there f n at E h.item) hs
  left-each a [] = tt
  left-each a (h ∷ hs) = (ap (λ k. 1 + k) (meets-all h a), left-each a hs)

  pub left-steps : AllByRecursion (IsOf f n below) E → (hs : List (Held Rule))
      → left_cost at E (arrivals below E) hs ≡ sum_by (λ (a : Rule). 1 + meets_there f n at E a) (map item_of hs)
  left-steps a hs =
      sum-same (λ (h : Held Rule). 1 + count_by (could at E h) (arrivals below E))
      (λ (h : Held Rule). 1 + meets_there f n at E h.item) hs (left-each a hs)
      ∙ sym (sum-map item_of (λ (r : Rule). 1 + meets_there f n at E r) hs)

  -- what the rules of the virtual switch could meet that came
  here-one : (g : GivenOf) (come : List ℕ) → IsPermutation (map item_of g.rules) (f.rules at.v)
      → (place : ℕ) (b : Held Rule) →
      count_by (λ h. could at E h (arrival place b)) (stayed g come) ≤ meets_here f at E place b.item
  here-one g come p place b =
      let part = count-part (λ h. could at E h (arrival place b)) (is_outside come) g.rules in
      let all = count-items (λ a. could_meet at E place a b.item) g.rules (f.rules at.v) p in
      omega arith

  module _ (turns : List Turn) (g : GivenOf) (come : List ℕ) (p : IsPermutation (map item_of g.rules) (f.rules at.v))
    where
      abbrev came : ℕ → List Rule
      came k = map item_of (under (rules_in (held_at below k)) (come_at turns k))

      right-one : (e : Exit)
          → right_cost at E (stayed g come) (came_at below turns e) ≤ sum_by (meets_here f at E e.place) (came e.place)
      right-one e =
          let hs = under (rules_in (held_at below e.place)) (come_at turns e.place) in
          let a = sum-map (arrival e.place) (λ y. count_by (λ h. could at E h y) (stayed g come)) hs in
          let b = sum-less (λ (b : Held Rule). count_by (λ h. could at E h (arrival e.place b)) (stayed g come))
          (λ (b : Held Rule). meets_here f at E e.place b.item) hs
          (all-of _ _ hs (λ b. here-one g come p e.place b)) in
          let c = sum-map item_of (meets_here f at E e.place) hs in
          omega arith

      pub right-steps : right_cost at E (stayed g come) (came_there below turns E) ≤ sum_by
          (λ (e : Exit). sum_by (meets_here f at E e.place) (came e.place)) E
      right-steps =
          let a = sum-flat (came_at below turns) (λ y. count_by (λ h. could at E h y) (stayed g come)) E in
          let b = sum-less (λ (e : Exit). right_cost at E (stayed g come) (came_at below turns e))
          (λ (e : Exit). sum_by (meets_here f at E e.place) (came e.place)) E (all-of _ _ E right-one) in
          omega arith

-- ---- at all nodes of a level
module _ (f : Fabric) (es : List LinkEnd) (gs : List GivenOf) (g : IsGiven f es gs) (n : ℕ) (below : List NodeOf)
    (row : IsRow f es n below) (e : Event) (turns : List Turn) where
  -- the rules that came to the node at a place
  abbrev pub came_below : ℕ → List Rule
  came_below k = map item_of (under (rules_in (held_at below k)) (come_at turns k))

  node-steps : (s : Stand) → s.at.v < length gs
      → node_cost gs below e turns s ≤ node_steps f n (exits es s.at.v) s.at (came_to gs e s.at.v) came_below
  node-steps s lt =
      let v = s.at.v in
      let E = (given_at gs v).exits in
      let come = (turn_at e v).come in
      let a = left-steps f n s.at E below (nodes-at f es gs g n below row v lt) (under (given_at gs v).rules come) in
      let b = right-steps f n s.at E below turns (given_at gs v) come (g.rules v) in
      subst (λ (xs : List Exit). node_cost gs below e turns s ≤ node_steps f n xs s.at (came_to gs e v) came_below)
      (g.exits_are v lt) (omega arith)

  each-steps : (stands : List Stand) → AllByRecursion (λ (s : Stand). s.at.v < length gs) stands
      → AllByRecursion (λ (s : Stand). node_cost gs below e turns s ≤ node_steps f n (exits es s.at.v) s.at
      (came_to gs e s.at.v) came_below) stands
  each-steps [] a = tt
  each-steps (s ∷ stands) a = (node-steps s a.0, each-steps stands a.1)

  pub level-steps : (stands : List Stand) → AllByRecursion (λ (s : Stand). s.at.v < length gs) stands →
      sum_by (node_cost gs below e turns) stands ≤ row_steps f es (came_to gs e) n came_below
      (map (λ (s : Stand). s.at) stands)
  level-steps stands a =
      let b = sum-less (node_cost gs below e turns)
      (λ (s : Stand). node_steps f n (exits es s.at.v) s.at (came_to gs e s.at.v) came_below) stands
      (each-steps stands a) in
      let c = sum-map (λ (s : Stand). s.at)
      (λ (p : Place). node_steps f n (exits es p.v) p (came_to gs e p.v) came_below) stands in
      omega arith
