-- The rules of a node are the same, in another order, where those of the virtual switches are.
use Rattle.std.proofs.Common.{◌≡◌, ℕ, zero, suc, Bool, true, false, List, [], ◌∷◌, Option, Some, None, refl, subst, ◌*◌}
use Rattle.std.specs.Prelude.{◌==◌, filter_map, flat_map, if◌then◌else◌, option_map, IsPermutation}
use Rattle.std.specs.List.{AllByRecursion}
use Rattle.std.proofs.lemmas.List.Sorted.{IsPermutation-refl, IsPermutation-trans}
use Rattle.list_change.proofs.Permute.{by-equation, permuted-filter_map, permuted-flat_map}
use Rattle.of10_match.specs.Matching.{at_port}
use Rattle.of10_actions.specs.declared.effects.Tail.{Tail}
use Rattle.of10_actions.specs.declared.effects.Tail.TheVariants.{Nothing, Pass, Link as OverLink}
use Rattle.of10_actions.specs.Fields.{RewriteOf}
use Rattle.policy_meaning.specs.Hops.{Fabric, at_node, hop_rule, hop_size, hops_on, leads, node, peer_of, peers_size}
use Rattle.policy_meaning.specs.LeafRules.{rule_met}
use Rattle.policy_meaning.specs.declared.network.Link.{Link}
use Rattle.policy_meaning.specs.declared.network.Onward.{Onward}
use Rattle.policy_meaning.specs.declared.network.Place.{Place}
use Rattle.policy_meaning.specs.declared.rule.Rule.{Rule}
use Rattle.switch_meaning.proofs.Items.{some_injective}
use Rattle.composed_tables.proofs.Moving.{each-permuted}

module _ (In : ℕ → Type 0) where
  peer-in : (links : List Link) → AllByRecursion (λ (l : Link). In l.peer.v) links → (p : ℕ) (q : Place)
      → peer_of links p ≡ Some q → In q.v
  peer-in [] a p q e = cc
  peer-in (l ∷ ls) a p q e = by (l.port == p) (λ f. peer-in ls a.1 p q f) e
    where
      by : (b : Bool) → (peer_of ls p ≡ Some q → In q.v) → (if b then Some l.peer else peer_of ls p) ≡ Some q → In q.v
      by true rest f = subst (λ (z : Place). In z.v) (some_injective f) a.0
      by false rest f = rest f

  onward-in : (r : RewriteOf) (o : Option Place) (on : Onward)
      → option_map (λ (q : Place). record { rewrite = r; place = q }) o ≡ Some on → ((q : Place) → o ≡ Some q → In q.v)
      → In on.place.v
  onward-in r None on e f = cc
  onward-in r (Some q) on e f = subst (λ (z : Onward). In z.place.v) (some_injective e) (f q refl)

  -- where a packet goes on over a link
  leads-in : (t : Tail) (links : List Link) (port : ℕ) (on : Onward) → AllByRecursion (λ (l : Link). In l.peer.v) links
      → leads t links port ≡ Some on → In on.place.v
  leads-in Nothing links port on a e = cc
  leads-in (Pass r) links port on a e = cc
  leads-in (OverLink r p) links port on a e = by (p == port) e
    where
      by : (b : Bool)
          → (if b then None else option_map (λ (q : Place). record { rewrite = r; place = q }) (peer_of links p))
          ≡ Some on → In on.place.v
      by true f = cc
      by false f = onward-in r (peer_of links p) on f (λ q g. peer-in links a p q g)

-- two fabrics with the same sizes and links, of which some virtual switches have the same rules; links lead from these
-- to these
module _ (f g : Fabric) (sizes : (v : ℕ) → f.sizes v ≡ g.sizes v) (links : (v : ℕ) → f.links v ≡ g.links v) (In : ℕ
    → Type 0)
    (closed : (v : ℕ) → In v → AllByRecursion (λ (l : Link). In l.peer.v) (f.links v)) (rules : (v : ℕ) → In v
    → IsPermutation (f.rules v) (g.rules v)) where
  hop-same : (n v : ℕ) → hop_size f n v ≡ hop_size g n v
  hop-same zero v = refl
  hop-same (suc n) v = λ i. sizes v i * peers_size (λ w. hop-same n w i) (links v i)

  by-way : (size : ℕ) (a : Rule) (o : Option Onward) (there here : ℕ → ℕ → List Rule)
      → ((on : Onward) → o ≡ Some on → IsPermutation (there on.place.v on.place.port) (here on.place.v on.place.port))
      → IsPermutation (hops_on o there size a) (hops_on o here size a)
  by-way size a None there here h = IsPermutation-refl _
  by-way size a (Some on) there here h = permuted-filter_map (hop_rule size on.rewrite a) _ _ (h on refl)

  pub node-same : (n v port : ℕ) → In v → IsPermutation (node f n v port) (node g n v port)
  node-same zero v port i = IsPermutation-refl _
  node-same (suc n) v port i =
      let met = λ (a : Rule). rule_met a (at_port port) in
      let size = peers_size (hop_size f n) (f.links v) in
      let make = λ (h : Fabric) (a : Rule). hops_on (leads a.tail (h.links v) port) (node h n)
      (peers_size (hop_size h n) (h.links v)) (at_node v port a) in
      IsPermutation-trans (flat_map (make f) (filter_map met (f.rules v)))
      (flat_map (make f) (filter_map met (g.rules v))) (flat_map (make g) (filter_map met (g.rules v)))
      (permuted-flat_map (make f) _ _ (permuted-filter_map met (f.rules v) (g.rules v) (rules v i)))
      (each-permuted (make f) (make g) (filter_map met (g.rules v))
      (λ a. IsPermutation-trans (make f a) (hops_on (leads a.tail (f.links v) port) (node g n) size (at_node v port a))
      (make g a)
      (by-way size (at_node v port a) (leads a.tail (f.links v) port) (node f n) (node g n)
      (λ on e. node-same n on.place.v on.place.port (leads-in In a.tail (f.links v) port on (closed v i) e)))
      (by-equation _ _ (λ j. hops_on (leads a.tail (links v j) port) (node g n)
      (peers_size (λ w. hop-same n w j) (links v j)) (at_node v port a)))))
