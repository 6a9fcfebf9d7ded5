-- The steps of a change through hops are the same where the rules of virtual switches are, in whatever order.
use Rattle.std.proofs.Common.{◌≡◌, ℕ, zero, suc, ◌+◌, ◌==◌, Bool, true, false, cond, List, [], ◌∷◌, Some, None, map}
use Rattle.std.proofs.Common.{refl, sym, ap, subst, ◌∙◌}
use Rattle.std.specs.Prelude.{count_by, if◌then◌else◌, slice_get, sum_by, IsPermutation}
use Rattle.std.specs.List.{AllByRecursion, enumerate_from}
use Rattle.std.proofs.lemmas.List.Sorted.{sum_by-IsPermutation}
use Rattle.std.proofs.lemmas.List.Sums.{sum_by-cons}
use Rattle.std.proofs.lemmas.Option.{get_or_from_slice_get}
use Rattle.agreement.proofs.Alone.{all-numbered}
use Rattle.hop_rules.specs.Counts.{change_steps, could_meet, meets_here, meets_there, node_steps, peers_came, row_steps}
use Rattle.hop_rules.specs.Counts.{rules_came, steps_from}
use Rattle.hop_rules.specs.Links.{exit_at, exits, no_end, peer_at}
use Rattle.hop_rules.specs.declared.exits.Exit.{Exit}
use Rattle.hop_rules.specs.declared.exits.LinkEnd.{LinkEnd}
use Rattle.list_change.proofs.Came.{came-ordered}
use Rattle.made_rules.specs.Coming.{is_rule}
use Rattle.made_rules.proofs.SameRules.{rule_decides}
use Rattle.policy_meaning.specs.Hops.{Fabric, node}
use Rattle.policy_meaning.specs.declared.network.Link.{Link}
use Rattle.policy_meaning.specs.declared.network.Place.{Place}
use Rattle.policy_meaning.specs.declared.rule.Rule.{Rule}
use Rattle.policy_meaning.proofs.Lists.{all-filter_map, all-map, all-mapped}
use Rattle.switch_meaning.proofs.Items.{some_injective}
use Rattle.composed_tables.proofs.Nodes.{node-same}

-- ---- sums
pub sum-each : {X : Type 0} (f g : X → ℕ) (xs : List X) → AllByRecursion (λ x. f x ≡ g x) xs → sum_by f xs ≡ sum_by g xs
sum-each f g [] a = refl
sum-each f g (x ∷ xs) a = sum_by-cons f x xs ∙ (λ i. a.0 i + sum-each f g xs a.1 i) ∙ sym (sum_by-cons g x xs)

count-same : {X : Type 0} (p : X → Bool) (xs ys : List X) → IsPermutation xs ys → count_by p xs ≡ count_by p ys
count-same p xs ys m = sym (sum_by-IsPermutation (λ x. cond (p x) 1 0) xs ys m)

sum-same : {X : Type 0} (f g : X → ℕ) (xs ys : List X) → ((x : X) → f x ≡ g x) → IsPermutation xs ys
    → sum_by f xs ≡ sum_by g ys
sum-same f g xs ys e m = (λ i. sum_by (λ x. e x i) xs) ∙ sym (sum_by-IsPermutation g xs ys m)

-- ---- fabrics
-- fabrics with the same sizes and links, of which some virtual switches have the same rules in whatever order; links
-- lead from these to these
pub record AreAlike (In : ℕ → Type 0) (f g : Fabric) : Type 0 where
  pub sizes : (v : ℕ) → f.sizes v ≡ g.sizes v
  pub links_are : (v : ℕ) → f.links v ≡ g.links v
  pub closed : (v : ℕ) → In v → AllByRecursion (λ (l : Link). In l.peer.v) (f.links v)
  pub rules : (v : ℕ) → In v → IsPermutation (f.rules v) (g.rules v)

module _ (In : ℕ → Type 0) (es : List LinkEnd) (ends-in : AllByRecursion (λ (e : LinkEnd). In e.peer.v) es) where
  -- an exit leads to such a virtual switch, also by its place
  record LeadsIn (e : Exit) : Type 0 where
    peer : In e.peer.v
    at : In (peer_at es e.place).v

  at-number : (xs : List LinkEnd) (k : ℕ) (x : LinkEnd) → AllByRecursion (λ (e : LinkEnd). In e.peer.v) xs
      → slice_get xs k ≡ Some x → In x.peer.v
  at-number [] k x a e = cc
  at-number (y ∷ ys) zero x a e = subst (λ (z : LinkEnd). In z.peer.v) (some_injective e) a.0
  at-number (y ∷ ys) (suc k) x a e = at-number ys k x a.1 e

  exit-in : (v : ℕ) (i : ℕ × LinkEnd) (x : Exit) → exit_at v i ≡ Some x → slice_get es i.0 ≡ Some i.1 → LeadsIn x
  exit-in v i x is at = by (i.1.v == v) is
    where
      there : In i.1.peer.v
      there = at-number es i.0 i.1 ends-in at

      by : (b : Bool) → (if b then Some (record { port = i.1.port; peer = i.1.peer; place = i.0 }) else None) ≡ Some x
          → LeadsIn x
      by true e =
          subst LeadsIn (some_injective e)
          (record {
            peer = there;
            at = subst (λ (z : LinkEnd). In z.peer.v)
                (sym (get_or_from_slice_get es i.0 i.1 no_end at)) there;
          })
      by false e = cc

  exits-in : (v : ℕ) → AllByRecursion LeadsIn (exits es v)
  exits-in v = all-filter_map (λ (i : ℕ × LinkEnd). slice_get es i.0 ≡ Some i.1) LeadsIn (exit_at v)
      (enumerate_from 0 es) (λ i x is at. exit-in v i x is at) (all-numbered es)

  module _ (f f' g g' : Fabric) (before : AreAlike In f f') (after : AreAlike In g g') where
    was-node : (n v port : ℕ) → In v → IsPermutation (node f n v port) (node f' n v port)
    was-node = node-same f f' before.sizes before.links_are In before.closed before.rules

    is-node : (n v port : ℕ) → In v → IsPermutation (node g n v port) (node g' n v port)
    is-node = node-same g g' after.sizes after.links_are In after.closed after.rules

    there-same : (n : ℕ) (at : Place) (E : List Exit) (a : Rule) → AllByRecursion LeadsIn E
        → meets_there g n at E a ≡ meets_there g' n at E a
    there-same n at E a h =
        let count = λ (k : Fabric) (e : Exit). count_by (could_meet at E e.place a) (node k n e.peer.v e.peer.port) in
        sum-each (count g) (count g') E
        (all-map LeadsIn (λ (e : Exit). count g e ≡ count g' e) E
        (λ e i. count-same (could_meet at E e.place a) (node g n e.peer.v e.peer.port) (node g' n e.peer.v e.peer.port)
        (is-node n e.peer.v e.peer.port i.peer)) h)

    here-same : (at : Place) (E : List Exit) (k : ℕ) → In at.v → (b : Rule)
        → meets_here g at E k b ≡ meets_here g' at E k b
    here-same at E k i b = count-same (λ a. could_meet at E k a b) (g.rules at.v) (g'.rules at.v) (after.rules at.v i)

    -- those that came to a virtual switch, and to the node where a link leads
    switch-came : (v : ℕ) → In v → IsPermutation (rules_came f g v) (rules_came f' g' v)
    switch-came v i = came-ordered is_rule rule_decides (f.rules v) (f'.rules v) (g.rules v) (g'.rules v)
        (before.rules v i) (after.rules v i)

    peer-came : (n k : ℕ) → In (peer_at es k).v → IsPermutation (peers_came f g es n k) (peers_came f' g' es n k)
    peer-came n k i =
        let v = (peer_at es k).v in
        let port = (peer_at es k).port in
        came-ordered is_rule rule_decides (node f n v port) (node f' n v port) (node g n v port) (node g' n v port)
        (was-node n v port i) (is-node n v port i)

    node-steps : (n : ℕ) (p : Place) → In p.v
        → node_steps g n (exits es p.v) p (rules_came f g p.v) (peers_came f g es n)
        ≡ node_steps g' n (exits es p.v) p (rules_came f' g' p.v) (peers_came f' g' es n)
    node-steps n p i =
        let E = exits es p.v in
        let own = sum-same (λ (a : Rule). 1 + meets_there g n p E a) (λ (a : Rule). 1 + meets_there g' n p E a)
        (rules_came f g p.v) (rules_came f' g' p.v)
        (λ a. ap (λ (m : ℕ). 1 + m) (there-same n p E a (exits-in p.v))) (switch-came p.v i) in
        let F = λ (e : Exit). sum_by (meets_here g p E e.place) (peers_came f g es n e.place) in
        let F' = λ (e : Exit). sum_by (meets_here g' p E e.place) (peers_came f' g' es n e.place) in
        let arriving = sum-each F F' E
        (all-map LeadsIn (λ (e : Exit). F e ≡ F' e) E
        (λ e h. sum-same (meets_here g p E e.place) (meets_here g' p E e.place) (peers_came f g es n e.place)
        (peers_came f' g' es n e.place)
        (here-same p E e.place i) (peer-came n e.place h.at)) (exits-in p.v)) in
        λ j. own j + arriving j

    row-steps : (n : ℕ) (places : List Place) → AllByRecursion (λ (p : Place). In p.v) places
        → row_steps g es (rules_came f g) n (peers_came f g es n) places
        ≡ row_steps g' es (rules_came f' g') n (peers_came f' g' es n) places
    row-steps n places a =
        let F = λ (p : Place). node_steps g n (exits es p.v) p (rules_came f g p.v) (peers_came f g es n) in
        let F' = λ (p : Place). node_steps g' n (exits es p.v) p (rules_came f' g' p.v) (peers_came f' g' es n) in
        sum-each F F' places (all-map (λ (p : Place). In p.v) (λ (p : Place). F p ≡ F' p) places
        (λ p i. node-steps n p i) a)

    module _ (outside : List Place) (outside-in : AllByRecursion (λ (p : Place). In p.v) outside) where
      from-steps : (more n : ℕ) → steps_from f g es (rules_came f g) outside n more
          ≡ steps_from f' g' es (rules_came f' g') outside n more
      from-steps zero n = row-steps n outside outside-in
      from-steps (suc more) n =
          let here = row-steps n (map (λ (e : LinkEnd). e.peer) es)
          (all-mapped (λ (e : LinkEnd). In e.peer.v) (λ (p : Place). In p.v) (λ (e : LinkEnd). e.peer) es (λ e i. i)
          ends-in) in
          let above = from-steps more (suc n) in
          λ j. here j + above j

      pub steps-alike : (hops : ℕ) → change_steps f g es outside hops ≡ change_steps f' g' es outside hops
      steps-alike zero = refl
      steps-alike (suc more) = from-steps more 0
