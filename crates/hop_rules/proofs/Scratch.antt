-- What a node makes is its rules from scratch.
use Rattle.std.proofs.Common.{◌≡◌, ℕ, suc, Bool, true, false, ◌==◌, List, [], ◌∷◌, ◌++◌, Option, Some, None, refl, sym}
use Rattle.std.proofs.Common.{ap, ◌∙◌, map}
use Rattle.std.specs.Prelude.{filter_map, flat_map, option_map, if◌then◌else◌, IfSome, IsPermutation}
use Rattle.std.specs.List.{AllByRecursion, cons_option}
use Rattle.std.specs.Option.{option_and_then}
use Rattle.std.proofs.lemmas.List.{append-nil, map-append}
use Rattle.std.proofs.lemmas.List.Sorted.{IsPermutation-trans, IsPermutation-map}
use Rattle.list_change.specs.Pairing.{by_left, by_one, made}
use Rattle.list_change.proofs.Flat.{each-made}
use Rattle.list_change.proofs.Permute.{by-equation, permuted-filter_map, permuted-flat_map}
use Rattle.of10_match.specs.Matching.{at_port}
use Rattle.of10_actions.specs.Fields.{RewriteOf}
use Rattle.of10_actions.specs.declared.effects.Tail.{Tail}
use Rattle.of10_actions.specs.declared.effects.Tail.TheVariants.{Nothing, Pass, Link}
use Rattle.rule_ancestry.specs.Holding.{Held, item_of}
use Rattle.policy_meaning.specs.Hops.{Fabric, at_node, hop_rule, hop_size, hops_on, leads, node, peer_of, peers_size}
use Rattle.policy_meaning.specs.LeafRules.{rule_met}
use Rattle.policy_meaning.specs.declared.network.Link.{Link as LinkOf}
use Rattle.policy_meaning.specs.declared.network.Onward.{Onward}
use Rattle.policy_meaning.specs.declared.network.Place.{Place}
use Rattle.policy_meaning.specs.declared.rule.Rule.{Rule}
use Rattle.made_rules.specs.Rules.{rule_of, rules_in}
use Rattle.made_rules.specs.declared.made.Made.{Made}
use Rattle.hop_rules.specs.Nodes.{Arrival, IsMadeOf, IsOf, NodeOf, Once, arrivals, held_at, hop_way, leads_there}
use Rattle.hop_rules.specs.Nodes.{lone_by, pair_by}
use Rattle.hop_rules.proofs.Arriving.{here, leaving-all, one-arrival}
use Rattle.hop_rules.proofs.Names.{itself, leaving-there}
use Rattle.hop_rules.proofs.Lists.{flat-permuted}
use Rattle.hop_rules.specs.Links.{exit_link}
use Rattle.hop_rules.specs.Standing.{departing, exit_of, leaving}
use Rattle.hop_rules.specs.declared.exits.Exit.{Exit}
use Rattle.hop_rules.specs.declared.standing.Departure.{Departure}

-- ---- where a rule leads
abbrev onward_of : Departure → Onward
onward_of l = record { rewrite = l.rewrite; place = l.exit.peer }

peer-step : (e : Exit) (t : Bool) (p : Option Place) (o : Option Exit) → p ≡ option_map (λ (f : Exit). f.peer) o →
    (if t then Some e.peer else p) ≡ option_map (λ (f : Exit). f.peer) (if t then Some e else o)
peer-step e true p o h = refl
peer-step e false p o h = h

peer-exit : (exits : List Exit) (port : ℕ)
    → peer_of (map exit_link exits) port ≡ option_map (λ (f : Exit). f.peer) (exit_of exits port)
peer-exit [] port = refl
peer-exit (e ∷ es) port = peer-step e (e.port == port) (peer_of (map exit_link es) port) (exit_of es port)
    (peer-exit es port)

abbrev going : RewriteOf → Place → Onward
going r q = record { rewrite = r; place = q }

onward-exit : (r : RewriteOf) (p : Option Place) (o : Option Exit) → p ≡ option_map (λ (f : Exit). f.peer) o →
    option_map (going r) p ≡ option_map onward_of (option_map (departing r) o)
onward-exit r p None h = ap (option_map (going r)) h
onward-exit r p (Some e) h = ap (option_map (going r)) h

back-same : (t : Bool) (p : Option Onward) (o : Option Departure) → p ≡ option_map onward_of o
    → (if t then None else p) ≡ option_map onward_of (if t then None else o)
back-same true p o h = refl
back-same false p o h = h

pub leads-exit : (exits : List Exit) (port : ℕ) (tail : Tail)
    → leads tail (map exit_link exits) port ≡ option_map onward_of (leaving exits port tail)
leads-exit exits port Nothing = refl
leads-exit exits port (Pass r) = refl
leads-exit exits port (Link r to) = back-same (to == port) _ _
    (onward-exit r (peer_of (map exit_link exits) to) (exit_of exits to) (peer-exit exits to))

-- ---- what a node makes, rule by rule
abbrev opt_flat : {A B : Type 0} → (A → List B) → Option A → List B
opt_flat f None = []
opt_flat f (Some a) = f a

module _ {A B C : Type 0} where
  flat-met : (F : B → List C) (G : A → Option B) (x : A) (o : Option B) (rest : List B)
      → flat_map F (cons_option o rest) ≡ opt_flat F o ++ flat_map F rest
  flat-met F G x None rest = refl
  flat-met F G x (Some b) rest = refl

  flat-filter : (F : B → List C) (G : A → Option B) (xs : List A)
      → flat_map F (filter_map G xs) ≡ flat_map (λ x. opt_flat F (G x)) xs
  flat-filter F G [] = refl
  flat-filter F G (x ∷ xs) = flat-met F G x (G x) (filter_map G xs)
      ∙ ap (λ z. opt_flat F (G x) ++ z) (flat-filter F G xs)

  map-flat : (f : B → C) (g : A → List B) (xs : List A) → map f (flat_map g xs) ≡ flat_map (λ x. map f (g x)) xs
  map-flat f g [] = refl
  map-flat f g (x ∷ xs) = map-append f (g x) (flat_map g xs) ∙ ap (λ z. map f (g x) ++ z) (map-flat f g xs)

flat-mapped : {A B C : Type 0} (f : A → B) (g : B → List C) (xs : List A)
    → flat_map g (map f xs) ≡ flat_map (λ x. g (f x)) xs
flat-mapped f g [] = refl
flat-mapped f g (x ∷ xs) = ap (λ z. g (f x) ++ z) (flat-mapped f g xs)

-- the rules of the node at an exit's place are those of the port to which it leads
abbrev pub AreAt : List NodeOf → (ℕ → ℕ → List Rule) → Exit → Type 0
AreAt below there e = IsPermutation (map item_of (rules_in (held_at below e.place))) (there e.peer.v e.peer.port)

module _ (at : Place) (size : ℕ) (exits : List Exit) (below : List NodeOf) (there : ℕ → ℕ → List Rule)
    (once : Once (map (λ (e : Exit). e.place) exits)) (nodes : AllByRecursion (AreAt below there) exits) where
  abbrev IsThere : Exit → Type 0
  IsThere e = AreAt below there e

  abbrev ys : List Arrival
  ys = arrivals below exits

  way-there : (id : ℕ) (a : Rule) (l : Departure) → IsThere l.exit → leads_there l.exit.place exits ≡ true →
      IsPermutation (map rule_of (filter_map (λ y. pair_by size id a y (Some l)) ys))
      (hops_on (Some (onward_of l)) there size a)
  way-there id a l p i =
      IsPermutation-trans _ _ _
      (by-equation _ _ (ap (map rule_of) (one-arrival size id a l below exits once i)
      ∙ here size id a l l.exit.place (rules_in (held_at below l.exit.place)) (itself l.exit.place)))
      (permuted-filter_map (hop_rule size l.rewrite a) _ _ p)

  nothing-paired : (id : ℕ) (a : Rule) (us : List Arrival) → filter_map (λ y. pair_by size id a y None) us ≡ []
  nothing-paired id a [] = refl
  nothing-paired id a (y ∷ us) = nothing-paired id a us

  -- what a rule makes that stands at the node and leaves so
  abbrev by_leaving : ℕ → Rule → Option Departure → List Made
  by_leaving id a o = cons_option (lone_by size id a o) [] ++ (filter_map (λ y. pair_by size id a y o) ys ++ [])

  left-made : (id : ℕ) (a : Rule) (o : Option Departure) → IfSome o (λ (l : Departure). IsThere l.exit)
      → IfSome o (λ (l : Departure). leads_there l.exit.place exits ≡ true) →
      IsPermutation (map rule_of (by_leaving id a o)) (hops_on (option_map onward_of o) there size a)
  left-made id a None p i =
      by-equation _ _ (ap (λ z. map rule_of (cons_option (lone_by size id a None) [] ++ (z ++ [])))
      (nothing-paired id a ys))
  left-made id a (Some l) p i =
      IsPermutation-trans _ _ _
      (by-equation _ _ (ap (map rule_of) (append-nil (filter_map (λ y. pair_by size id a y (Some l)) ys))))
      (way-there id a l p i)

  -- what a rule makes that stands so at the node, if it does
  abbrev by_standing : ℕ → Option Rule → List Made
  by_standing id s = cons_option (option_and_then (λ (a : Rule). lone_by size id a (leaving exits at.port a.tail)) s) []
      ++ (filter_map (λ y. option_and_then (λ (a : Rule). pair_by size id a y (leaving exits at.port a.tail)) s) ys
      ++ [])

  nothing-stands : (us : List Arrival) → filter_map (hop_way at size exits).other us ≡ []
  nothing-stands [] = refl
  nothing-stands (y ∷ us) = nothing-stands us

  stood-made : (id : ℕ) (o : Option Rule)
      → IsPermutation (map rule_of (by_standing id (option_map (at_node at.v at.port) o)))
      (opt_flat (λ (a : Rule). hops_on (leads a.tail (map exit_link exits) at.port) there size (at_node at.v at.port a))
      o)
  stood-made id None = by-equation _ _ (ap (λ z. map rule_of (z ++ [])) (nothing-stands ys))
  stood-made id (Some a) =
      IsPermutation-trans _ _ _
      (left-made id (at_node at.v at.port a) (leaving exits at.port a.tail)
      (leaving-all IsThere exits at.port a.tail nodes) (leaving-there exits at.port a.tail))
      (by-equation _ _ (ap (λ o. hops_on o there size (at_node at.v at.port a))
      (sym (leads-exit exits at.port a.tail))))

  -- the rules that a node makes are those from scratch
  pub made-scratch : (rules : List (Held Rule)) → IsPermutation (map rule_of (made (hop_way at size exits) rules ys))
      (flat_map (λ (a : Rule). hops_on (leads a.tail (map exit_link exits) at.port) there size (at_node at.v at.port a))
      (filter_map (λ a. rule_met a (at_port at.port)) (map item_of rules)))
  made-scratch rules =
      let w = hop_way at size exits in
      let F = λ (a : Rule). hops_on (leads a.tail (map exit_link exits) at.port) there size (at_node at.v at.port a) in
      let G = λ (a : Rule). rule_met a (at_port at.port) in
      IsPermutation-trans _ (map rule_of (by_left w rules ys)) _
      (by-equation _ _ (ap (λ z. map rule_of (by_left w rules ys ++ z)) (nothing-stands ys)
      ∙ ap (map rule_of) (append-nil (by_left w rules ys))))
      (IsPermutation-trans _ (map rule_of (flat_map (by_one w ys) rules)) _
      (IsPermutation-map rule_of _ _ (each-made w ys rules))
      (IsPermutation-trans _ (flat_map (λ (h : Held Rule). map rule_of (by_one w ys h)) rules) _
      (by-equation _ _ (map-flat rule_of (by_one w ys) rules))
      (IsPermutation-trans _ (flat_map (λ (h : Held Rule). opt_flat F (G h.item)) rules) _
      (flat-permuted (λ (h : Held Rule). map rule_of (by_one w ys h)) (λ (h : Held Rule). opt_flat F (G h.item))
      (λ h. stood-made h.id (G h.item)) rules)
      (by-equation _ _
      (sym (flat-filter F G (map item_of rules) ∙ flat-mapped item_of (λ a. opt_flat F (G a)) rules))))))

-- the rules of a node from scratch, for one hop more
pub from-scratch : (f : Fabric) (n : ℕ) (at : Place) (exits : List Exit) (rules : List (Held Rule))
    (below : List NodeOf) (held : List (Held Made)) → map exit_link exits ≡ f.links at.v
    → Once (map (λ (e : Exit). e.place) exits) →
    IsPermutation (map item_of rules) (f.rules at.v) → AllByRecursion (IsOf f n below) exits
    → IsMadeOf at (peers_size (hop_size f n) (f.links at.v)) exits rules below held →
    IsPermutation (map rule_of (map item_of held)) (node f (suc n) at.v at.port)
from-scratch f n at exits rules below held links once given nodes whole =
    let size = peers_size (hop_size f n) (f.links at.v) in
    let F = λ (l : List LinkOf) (a : Rule). hops_on (leads a.tail l at.port) (node f n) size (at_node at.v at.port a) in
    let G = λ (a : Rule). rule_met a (at_port at.port) in
    IsPermutation-trans _ _ _ (IsPermutation-map rule_of _ _ whole)
    (IsPermutation-trans _ _ _ (made-scratch at size exits below (node f n) once nodes rules)
    (IsPermutation-trans _ _ _ (by-equation _ _ (ap (λ l. flat_map (F l) (filter_map G (map item_of rules))) links))
    (permuted-flat_map (F (f.links at.v)) _ _ (permuted-filter_map G _ _ given))))
