-- The steps of a change hang on what came, in whatever order.
use Rattle.std.proofs.Common.{◌≡◌, ℕ, zero, suc, ◌+◌, ◌<◌, List, [], ◌∷◌, sym, length, map}
use Rattle.std.specs.Prelude.{IsPermutation, sum_by}
use Rattle.std.specs.List.{AllByRecursion}
use Rattle.std.proofs.lemmas.List.Sorted.{IsPermutation-refl, IsPermutation-sym, sum_by-IsPermutation}
use Rattle.list_change.proofs.Came.{what-came}
use Rattle.made_rules.specs.Coming.{is_rule}
use Rattle.policy_meaning.specs.Hops.{Fabric, node}
use Rattle.policy_meaning.specs.declared.network.Place.{Place}
use Rattle.policy_meaning.specs.declared.rule.Rule.{Rule}
use Rattle.hop_rules.specs.Counts.{CameThere, CameTo, meets_here, meets_there, node_steps, peers_came, row_steps}
use Rattle.hop_rules.specs.Counts.{rules_came, steps_from}
use Rattle.hop_rules.specs.Links.{exits, peer_at}
use Rattle.hop_rules.specs.declared.exits.Exit.{Exit}
use Rattle.hop_rules.specs.declared.exits.LinkEnd.{LinkEnd}
use Rattle.hop_rules.proofs.Costs.{sum-same}
use Rattle.hop_rules.proofs.Numbering.{IsExitOf, all-from, exits-there}
use Rattle.made_rules.proofs.SameRules.{rule_decides}

-- ---- in any order
node-order : (f : Fabric) (n : ℕ) (at : Place) (E : List Exit) (come us : List Rule) (came vs : ℕ → List Rule)
    → IsPermutation come us → AllByRecursion (λ (e : Exit). IsPermutation (came e.place) (vs e.place)) E →
    node_steps f n E at come came ≡ node_steps f n E at us vs
node-order f n at E come us came vs p q =
    let a = sum_by-IsPermutation (λ (x : Rule). 1 + meets_there f n at E x) come us p in
    let each = all-from (λ (e : Exit). IsPermutation (came e.place) (vs e.place))
    (λ (e : Exit). sum_by (meets_here f at E e.place) (came e.place)
    ≡ sum_by (meets_here f at E e.place) (vs e.place))
    (λ e r. sym (sum_by-IsPermutation (meets_here f at E e.place) (came e.place) (vs e.place) r)) E q in
    let b = sum-same (λ (e : Exit). sum_by (meets_here f at E e.place) (came e.place))
    (λ (e : Exit). sum_by (meets_here f at E e.place) (vs e.place)) E each in
    λ i. sym a i + b i

module _ (f : Fabric) (es : List LinkEnd) (n : ℕ) (come us came vs : ℕ → List Rule) (p : (v : ℕ)
    → IsPermutation (come v) (us v)) (q : (k : ℕ) → k < length es → IsPermutation (came k) (vs k)) where
  each-order : (places : List Place)
      → AllByRecursion (λ (x : Place). node_steps f n (exits es x.v) x (come x.v) came
      ≡ node_steps f n (exits es x.v) x (us x.v) vs) places
  each-order [] = tt
  each-order (x ∷ places) = (
    node-order f n x (exits es x.v) (come x.v) (us x.v) came vs (p x.v)
        (all-from (IsExitOf es) (λ (e : Exit). IsPermutation (came e.place) (vs e.place)) (λ e h. q e.place h.there)
        (exits es x.v) (exits-there es x.v)),
    each-order places,
  )

  pub row-order : (places : List Place) → row_steps f es come n came places ≡ row_steps f es us n vs places
  row-order places =
      sum-same (λ (x : Place). node_steps f n (exits es x.v) x (come x.v) came)
      (λ (x : Place). node_steps f n (exits es x.v) x (us x.v) vs) places (each-order places)

module _ (f g : Fabric) (es : List LinkEnd) (outside : List Place) (come us : ℕ → List Rule) (p : (v : ℕ)
    → IsPermutation (come v) (us v)) where
  pub from-order : (n more : ℕ) → steps_from f g es come outside n more ≡ steps_from f g es us outside n more
  from-order n zero = row-order g es n come us (peers_came f g es n) (peers_came f g es n) p
      (λ k lt. IsPermutation-refl _) outside
  from-order n (suc more) =
      let here = row-order g es n come us (peers_came f g es n) (peers_came f g es n) p (λ k lt. IsPermutation-refl _)
      (map (λ (e : LinkEnd). e.peer) es) in
      let above = from-order (suc n) more in
      λ i. here i + above i

-- ---- what came as a change says
module _ (f g : Fabric) (es : List LinkEnd) (n : ℕ) (came : ℕ → List Rule) (h : CameThere f g es n came) where
  pub peers-are : (k : ℕ) → k < length es → IsPermutation (came k) (peers_came f g es n k)
  peers-are k lt =
      let c = h k lt in
      IsPermutation-sym _ _
      (what-came is_rule rule_decides (node f n (peer_at es k).v (peer_at es k).port)
      (node g n (peer_at es k).v (peer_at es k).port) c.0 (came k) c.1.changed c.1.apart)

  pub told-row : (come : ℕ → List Rule) → CameTo f g come → (places : List Place)
      → row_steps g es come n came places ≡ row_steps g es (rules_came f g) n (peers_came f g es n) places
  told-row come t places =
      row-order g es n come (rules_came f g) came (peers_came f g es n)
      (λ v. let c = t v in
      IsPermutation-sym _ _
      (what-came is_rule rule_decides (f.rules v) (g.rules v) c.0 (come v) c.1.changed c.1.apart)) peers-are places
