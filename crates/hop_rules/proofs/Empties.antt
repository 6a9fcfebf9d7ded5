-- A table without rules.
use Rattle.std.proofs.Common.{◌≡◌, ℕ, zero, suc, ◌+◌, ◌*◌, ◌<◌, ◌≤◌, ◌^◌, Bool, true, false, not, cond, List, [], ◌∷◌}
use Rattle.std.proofs.Common.{Option, Some, None, ◌⊎◌, inl, inr, refl, sym, ap, ◌∙◌, subst, length, get_or, map, arith}
use Rattle.std.specs.Prelude.{filter, filter_map, flat_map, if◌then◌else◌, max, option_map}
use Rattle.std.specs.List.{AllByRecursion, cons_option, enumerate_from}
use Rattle.std.specs.List.Sorted.{IsStrictlySortedBy}
use Rattle.std.specs.Map.{lookup}
use Rattle.std.specs.Option.{option_map_or}
use Rattle.std.proofs.lemmas.Bool.{cases_eq, cases_lt}
use Rattle.std.proofs.lemmas.List.Elements.{recursion_from_All}
use Rattle.std.proofs.lemmas.List.Sorted.{IsPermutation-refl}
use Rattle.std.proofs.lemmas.Nat.{mul-le}
use Rattle.std.proofs.lemmas.Option.{slice_get_past}
use Rattle.list_change.specs.Pairing.{made}
use Rattle.list_change.proofs.Permute.{by-equation}
use Rattle.list_change.proofs.Flat.{none-of}
use Rattle.policy_meaning.specs.Hops.{Fabric, hop_size, last_rule, peers_size}
use Rattle.policy_meaning.specs.declared.network.Link.{Link}
use Rattle.policy_meaning.specs.declared.network.Place.{Place}
use Rattle.policy_meaning.specs.declared.rule.Rule.{Rule}
use Rattle.policy_meaning.proofs.Peers.{positive}
use Rattle.rule_ancestry.specs.Holding.{Held, item_of}
use Rattle.made_rules.specs.Rules.{rule_of, rules_in}
use Rattle.made_rules.specs.declared.made.Made.{Made}
use Rattle.virtual_topology.specs.Rows.{Spot}
use Rattle.virtual_topology.specs.Wires.{Joint, both_ways, link_joints, outside_joints, peer_of}
use Rattle.virtual_topology.specs.Within.{LiesWithin}
use Rattle.virtual_topology.specs.declared.plan.TopologyPlan.{TopologyPlan}
use Rattle.virtual_topology.specs.declared.plan.VirtualItem.{VirtualItem}
use Rattle.virtual_topology.specs.declared.plan.VirtualPort.{VirtualPort}
use Rattle.virtual_topology.proofs.Bounds.{links_within, outside_within}
use Rattle.hop_rules.specs.Building.{IsEmptyLevel, IsEmptyNode, IsFabric, IsLast, IsRisen, joint_stand, last_made}
use Rattle.hop_rules.specs.Building.{no_level, none_of, size_at}
use Rattle.hop_rules.specs.Handed.{AreListed, GivenOf}
use Rattle.hop_rules.specs.Kept.{IsKept, rules_of, with_rules}
use Rattle.hop_rules.specs.Levels.{AreMade, IsGiven, IsMade, IsMadeAt, IsRow, given_at, no_node, none_given, stand_at}
use Rattle.hop_rules.specs.Links.{end, ends, exit_link, link_of, links, place, port_ends}
use Rattle.hop_rules.specs.Nodes.{NodeOf, arrivals, held_at, hop_way}
use Rattle.hop_rules.specs.Tables.{TableOf, empty_table, fabric, rules_at}
use Rattle.hop_rules.specs.Under.{Rises}
use Rattle.hop_rules.specs.declared.building.Rising.{Rising}
use Rattle.hop_rules.specs.declared.exits.LinkEnd.{LinkEnd}
use Rattle.hop_rules.specs.declared.level.Level.{Level}
use Rattle.hop_rules.specs.declared.level.Stand.{Stand}
use Rattle.hop_rules.proofs.Changing.{rules-are}
use Rattle.hop_rules.proofs.Linked.{exits-linked}
use Rattle.hop_rules.proofs.Numbering.{all-at, all-from, all-joined, held-is, map-at, past-end}
use Rattle.hop_rules.proofs.Stages.{same-size}

-- ---- ends lead to virtual switches that are there
module _ (n : ℕ) where
  within-both : (js : List Joint) → AllByRecursion (LiesWithin n) js
      → AllByRecursion (λ (j : Joint). j.1.0 < n) (both_ways js)
  within-both [] a = tt
  within-both (j ∷ js) a = (a.0.1, (a.0.0, within-both js a.1))

  looked-up : (p : Spot → Bool) (js : List Joint) → AllByRecursion (λ (j : Joint). j.1.0 < n) js → (s : Spot)
      → lookup p js ≡ Some s → s.0 < n
  looked-up p [] a s e = absurd (cc)
  looked-up p (j ∷ js) a s e = by (p j.0) e (looked-up p js a.1 s)
    where
      by : (t : Bool) → cond t (Some j.1) (lookup p js) ≡ Some s → (lookup p js ≡ Some s → s.0 < n) → s.0 < n
      by true e rest = let h : j.1 ≡ s = cc in subst (λ (x : Spot). x.0 < n) h a.0
      by false e rest = rest e

module _ (plan : TopologyPlan) where
  abbrev IsIn : LinkEnd → Type 0
  IsIn e = e.peer.v < length plan.virtuals

  peer-in : (v port : ℕ) (s : Spot) → peer_of plan v port ≡ Some s → s.0 < length plan.virtuals
  peer-in v port s e =
      let js = link_joints plan in
      let n = length plan.virtuals in
      looked-up n _ (both_ways js) (within-both n js (recursion_from_All (LiesWithin n) js (links_within plan))) s e

  end-in : (v : ℕ) (q : VirtualPort) (o : Option Spot) → peer_of plan v q.port ≡ o → (rest : List LinkEnd)
      → AllByRecursion IsIn rest
      → AllByRecursion IsIn (cons_option (option_map (λ s. record { v = v; port = q.port; peer = place s }) o) rest)
  end-in v q None e rest a = a
  end-in v q (Some s) e rest a = (peer-in v q.port s e, a)

  port-ends-in : (v : ℕ) (qs : List VirtualPort) → AllByRecursion IsIn (filter_map (end plan v) qs)
  port-ends-in v [] = tt
  port-ends-in v (q ∷ qs) = end-in v q (peer_of plan v q.port) refl (filter_map (end plan v) qs) (port-ends-in v qs)

  ends-from : (k : ℕ) (xs : List VirtualItem) → AllByRecursion IsIn (flat_map (port_ends plan) (enumerate_from k xs))
  ends-from k [] = tt
  ends-from k (x ∷ xs) = all-joined IsIn (port_ends plan (k, x)) (flat_map (port_ends plan) (enumerate_from (k + 1) xs))
      (port-ends-in k x.ports) (ends-from (k + 1) xs)

  pub ends-in : AllByRecursion IsIn (ends plan)
  ends-in = ends-from 0 plan.virtuals

  -- past the last virtual switch there are no links
  pub none-past : (v : ℕ) → length plan.virtuals ≤ v → links plan v ≡ []
  none-past v le = ap (λ (o : Option VirtualItem). option_map_or (λ x. map link_of (port_ends plan (v, x))) o [])
      (slice_get_past plan.virtuals v le)

-- ---- sizes
-- of one hop more they are no less
module _ (f : Fabric) where
  greatest-more : (w z : ℕ → ℕ) → ((v : ℕ) → w v ≤ max 1 (z v)) → (ls : List Link) → peers_size w ls ≤ peers_size z ls
  greatest-more w z h [] = omega arith
  greatest-more w z h (l ∷ ls) = let a = h l.peer.v in let b = greatest-more w z h ls in let c =
      positive (map (λ (x : Link). z x.peer.v) ls) in omega arith

  grows : (n v : ℕ) → hop_size f n v ≤ max 1 (hop_size f (suc n) v)
  grows zero v = omega arith
  grows (suc n) v =
      let le = greatest-more (hop_size f n) (hop_size f (suc n)) (λ u. grows n u) (f.links v) in
      let m : f.sizes v * peers_size (hop_size f n) (f.links v) ≤ f.sizes v * peers_size (hop_size f (suc n))
      (f.links v) = mul-le (f.sizes v) (peers_size (hop_size f n) (f.links v)) (f.sizes v)
      (peers_size (hop_size f (suc n)) (f.links v)) (omega arith) le in
      omega arith

  pub fits-below : (hops : ℕ) → ((v : ℕ) → hop_size f hops v < 2 ^ 64) → (n v : ℕ) → n ≤ hops → hop_size f n v < 2 ^ 64
  fits-below zero h n v le = subst (λ (k : ℕ). hop_size f k v < 2 ^ 64) (let e : zero ≡ n = omega arith in e) (h v)
  fits-below (suc hops) h n v le = by (cases_eq n (suc hops)) (fits-below hops less n v)
    where
      less : (u : ℕ) → hop_size f hops u < 2 ^ 64
      less u = let a = grows hops u in let b = h u in omega arith

      by : (n ≡ suc hops) ⊎ (n ≡ suc hops → ⊥) → (n ≤ hops → hop_size f n v < 2 ^ 64) → hop_size f n v < 2 ^ 64
      by (inl e) rest = subst (λ (k : ℕ). hop_size f k v < 2 ^ 64) (sym e) (h v)
      by (inr d) rest = rest (omega arith)

-- ---- nodes without rules
empty-held : (read : Bool) (ns : List NodeOf) → AllByRecursion (IsEmptyNode read) ns → (k : ℕ) → held_at ns k ≡ []
empty-held read [] a k = refl
empty-held read (n ∷ ns) a zero = ap (λ (m : NodeOf). m.held) a.0
empty-held read (n ∷ ns) a (suc k) = empty-held read ns a.1 k

empty-read : (ns : List NodeOf) → AllByRecursion (IsEmptyNode true) ns
    → AllByRecursion (λ (m : NodeOf). m.read ≡ true) ns
empty-read [] a = tt
empty-read (n ∷ ns) a = (ap (λ (m : NodeOf). m.read) a.0, empty-read ns a.1)

module _ (gs : List GivenOf) (none : (v : ℕ) → (given_at gs v).rules ≡ []) where
  -- of no rules none are made
  nothing-made : (below : List NodeOf) (s : Stand) → IsMadeAt gs below s []
  nothing-made below s =
      let E = (given_at gs s.at.v).exits in
      let w = hop_way s.at s.size E in
      by-equation _ _ (sym (ap (λ (rs : List (Held Rule)). made w rs (arrivals below E)) (none s.at.v)
      ∙ none-of w.other (λ y. refl) (arrivals below E)))

  pub empty-made : (f : Fabric) (n : ℕ) (below : List NodeOf) (l : Level) (read : Bool)
      → length l.nodes ≡ length l.stands → AllByRecursion (λ (s : Stand). s.at.v < length gs) l.stands →
      AllByRecursion (λ (s : Stand). s.size ≡ peers_size (hop_size f n) (f.links s.at.v)) l.stands
      → AllByRecursion (IsEmptyNode read) l.nodes → IsMade f n gs below l
  empty-made f n below l read c there sizes empty = record {
    count = c;
    there = there;
    sizes = sizes;
    made = λ k lt. subst (IsMadeAt gs below (stand_at l.stands k)) (sym (empty-held read l.nodes empty k))
        (nothing-made below (stand_at l.stands k));
  }

  there-of : (es : List LinkEnd) (stands : List Stand)
      → map (λ (s : Stand). s.at) stands ≡ map (λ (e : LinkEnd). e.peer) es
      → AllByRecursion (λ (e : LinkEnd). e.peer.v < length gs) es
      → AllByRecursion (λ (s : Stand). s.at.v < length gs) stands
  there-of [] [] e a = tt
  there-of [] (s ∷ stands) e a = absurd (cc)
  there-of (x ∷ es) [] e a = absurd (cc)
  there-of (x ∷ es) (s ∷ stands) e a =
      let h : s.at ≡ x.peer = cc in
      let t : map (λ (s : Stand). s.at) stands ≡ map (λ (e : LinkEnd). e.peer) es = cc in
      (subst (λ (p : Place). p.v < length gs) (sym h) a.0, there-of es stands t a.1)

  -- all levels
  pub empty-levels : (f : Fabric) (es : List LinkEnd) → AllByRecursion (λ (e : LinkEnd). e.peer.v < length gs) es
      → (levels : List Level) (n : ℕ) (below : List NodeOf) (top : Level) →
      ((k : ℕ) → k < length levels → IsEmptyLevel f es (n + k) (get_or levels k no_level))
      → ((below : List NodeOf) → IsMade f (n + length levels) gs below top) → AreMade f es n gs below levels top
  empty-levels f es peers [] n below top each at-top =
      subst (λ (m : ℕ). IsMade f m gs below top) (let h : n + 0 ≡ n = omega arith in h) (at-top below)
  empty-levels f es peers (l ∷ levels) n below top each at-top =
      let one = subst (λ (m : ℕ). IsEmptyLevel f es m l) (let h : n + 0 ≡ n = omega arith in h)
      (each 0 (omega arith)) in (
        (
          empty-made f n below l true one.count (there-of es l.stands one.ports peers) one.sizes one.empty,
          record { peers = one.ports; read = empty-read l.nodes one.empty },
        ),
        empty-levels f es peers levels (suc n) l.nodes top
            (λ k lt. subst (λ (m : ℕ). IsEmptyLevel f es m (get_or levels k no_level))
            (let h : n + suc k ≡ suc n + k = omega arith in h) (each (suc k) (omega arith)))
            (λ b. subst (λ (m : ℕ). IsMade f m gs b top)
            (let h : n + suc (length levels) ≡ suc n + length levels = omega arith in h) (at-top b)),
      )

-- ---- the nodes of no hop left
module _ (ns : List NodeOf) (a : AllByRecursion IsLast ns) where
  last-all : AllByRecursion (λ (m : NodeOf). m.read ≡ true) ns
  last-all = all-from IsLast (λ (m : NodeOf). m.read ≡ true) (λ m l. l.read) ns a

  last-at : (k : ℕ) → k < length ns → map item_of (held_at ns k) ≡ last_made ∷ []
  last-at k lt = ap (map item_of) (held-is ns k) ∙ (all-at IsLast ns no_node a k lt).held

  last-rules : (k : ℕ) → k < length ns → map item_of (rules_in (held_at ns k)) ≡ last_rule ∷ []
  last-rules k lt = rules-are (held_at ns k) ∙ ap (map rule_of) (last-at k lt)

  pub last-row : (f : Fabric) (es : List LinkEnd) → length ns ≡ length es → IsRow f es 0 ns
  last-row f es c = record {
    count = c;
    read = last-all;
    rules = λ k lt. by-equation _ _ (last-rules k (let h = c in omega arith));
  }

  single-rises : (held : List (Held Made)) → map item_of held ≡ last_made ∷ [] → Rises (rules_in held)
  unfolding IsStrictlySortedBy
  single-rises [] e = tt
  single-rises (h ∷ []) e = (tt, tt)
  single-rises (h ∷ i ∷ hs) e = absurd (cc)

  none-rises : (held : List (Held Made)) → held ≡ [] → Rises (rules_in held)
  unfolding IsStrictlySortedBy
  none-rises [] e = tt
  none-rises (h ∷ hs) e = absurd (cc)

  pub last-rises : (k : ℕ) → Rises (rules_in (held_at ns k))
  last-rises k = by (cases_lt k (length ns))
    where
      by : (k < length ns) ⊎ (length ns ≤ k) → Rises (rules_in (held_at ns k))
      by (inl lt) = single-rises (held_at ns k) (last-at k lt)
      by (inr le) = none-rises (held_at ns k) (held-is ns k ∙ ap (λ (m : NodeOf). m.held) (past-end no_node ns k le))

-- ---- outside ports
module _ (whole : List Bool) (peers : List ℕ) where
  port-by : (j : Joint) (t : Bool) (rest : List Stand) (more : List Place) → map (λ (s : Stand). s.at) rest ≡ more →
      map (λ (s : Stand). s.at)
      (cons_option (if t then None
      else Some (record { at = record { v = j.0.0; port = j.0.1 }; size = size_at peers j.0.0 })) rest)
      ≡ cond (not t) (place j.0 ∷ more) more
  port-by j true rest more e = e
  port-by j false rest more e = ap (λ z. place j.0 ∷ z) e

  pub ports-are : (js : List Joint)
      → map (λ (s : Stand). s.at) (filter_map (joint_stand whole peers) js)
      ≡ filter (λ (p : Place). not (get_or whole p.v false)) (map (λ (j : Joint). place j.0) js)
  ports-are [] = refl
  ports-are (j ∷ js) = port-by j (get_or whole j.0.0 false) (filter_map (joint_stand whole peers) js)
      (filter (λ (p : Place). not (get_or whole p.v false)) (map (λ (j : Joint). place j.0) js)) (ports-are js)

  module _ (P : Stand → Type 0) where
    stand-by : (j : Joint) (t : Bool) (rest : List Stand)
        → P (record { at = record { v = j.0.0; port = j.0.1 }; size = size_at peers j.0.0 }) → AllByRecursion P rest →
        AllByRecursion P
        (cons_option (if t then None
        else Some (record { at = record { v = j.0.0; port = j.0.1 }; size = size_at peers j.0.0 })) rest)
    stand-by j true rest p a = a
    stand-by j false rest p a = (p, a)

    pub stands-all : (js : List Joint)
        → AllByRecursion
        (λ (j : Joint). P (record { at = record { v = j.0.0; port = j.0.1 }; size = size_at peers j.0.0 })) js
        → AllByRecursion P (filter_map (joint_stand whole peers) js)
    stands-all [] a = tt
    stands-all (j ∷ js) a = stand-by j (get_or whole j.0.0 false) (filter_map (joint_stand whole peers) js) a.0
        (stands-all js a.1)

-- ---- virtual switches without rules
module _ (es : List LinkEnd) (gs : List GivenOf) (each : (v : ℕ) → v < length gs → given_at gs v ≡ none_of es v) where
  blank : (P : GivenOf → Type 0) → ((v : ℕ) → P (none_of es v)) → P none_given → (v : ℕ) → P (given_at gs v)
  blank P one none v = by (cases_lt v (length gs))
    where
      by : (v < length gs) ⊎ (length gs ≤ v) → P (given_at gs v)
      by (inl lt) = subst P (sym (each v lt)) (one v)
      by (inr le) = subst P (sym (past-end none_given gs v le)) none

  pub no-rules : (v : ℕ) → (given_at gs v).rules ≡ []
  no-rules = blank (λ (g : GivenOf). g.rules ≡ []) (λ v. refl) refl

  pub all-listed : (v : ℕ) → AreListed (given_at gs v) (given_at gs v).rules
  all-listed = blank (λ (g : GivenOf). AreListed g g.rules) (λ v. IsPermutation-refl []) (IsPermutation-refl [])

  blank-rises : (hs : List (Held Rule)) → hs ≡ [] → Rises hs
  unfolding IsStrictlySortedBy
  blank-rises [] e = tt
  blank-rises (h ∷ hs) e = absurd (cc)

  pub all-rise : (v : ℕ) → Rises (given_at gs v).rules
  all-rise v = blank-rises (given_at gs v).rules (no-rules v)

blanks : (gs : List GivenOf) → ((v : ℕ) → (given_at gs v).rules ≡ []) → (sizes : List ℕ) → length sizes ≡ length gs
    → rules_of gs ≡ map (λ v. []) sizes
blanks [] a [] e = refl
blanks [] a (x ∷ xs) e = absurd (omega arith)
blanks (g ∷ gs) a [] e = absurd (omega arith)
blanks (g ∷ gs) a (x ∷ xs) e = λ i. map item_of (a 0 i) ∷ blanks gs (λ v. a (suc v)) xs (omega arith) i

-- ---- all parts
module _ (plan : TopologyPlan) (sizes : List ℕ) (hops : ℕ) (whole : List Bool) (gs : List GivenOf)
    (count : length gs ≡ length sizes) (virtuals : length sizes ≡ length plan.virtuals) (each : (v : ℕ) → v < length gs
    → given_at gs v ≡ none_of (ends plan) v) where
  abbrev t : TableOf
  t = with_rules (empty_table plan sizes hops whole) gs

  pub rules-empty : rules_of gs ≡ map (λ v. []) sizes
  rules-empty = blanks gs (no-rules (ends plan) gs each) sizes (sym count)

  ends-there : AllByRecursion (λ (e : LinkEnd). e.peer.v < length gs) (ends plan)
  ends-there = subst (λ (n : ℕ). AllByRecursion (λ (e : LinkEnd). e.peer.v < n) (ends plan)) (sym (count ∙ virtuals))
      (ends-in plan)

  pub is-fabric : IsFabric (fabric t) (ends plan) gs sizes
  is-fabric = record {
    count = sym count;
    own_sizes = λ v. refl;
    links = λ v lt. ap (λ (g : GivenOf). map exit_link g.exits) (each v lt) ∙ exits-linked plan v;
    none = λ v le. none-past plan v (let h = count ∙ virtuals in omega arith);
    peers = ends-there;
  }

  is-given : IsGiven (fabric t) (ends plan) gs
  is-given = record {
    exits_are = λ v lt. ap (λ (g : GivenOf). g.exits) (each v lt);
    links = exits-linked plan;
    rules = λ v. by-equation _ _ (sym (map-at (λ (g : GivenOf). map item_of g.rules) none_given gs v));
    own = λ v. subst (AllByRecursion _)
        (sym (map-at (λ (g : GivenOf). map item_of g.rules) none_given gs v
        ∙ ap (map item_of) (no-rules (ends plan) gs each v))) tt;
    peers = ends-there;
  }

  pub fits-all : ((v : ℕ) → hop_size (fabric (empty_table plan sizes hops whole)) hops v < 2 ^ 64) → (n v : ℕ)
      → n ≤ hops → hop_size (fabric t) n v < 2 ^ 64
  fits-all fits = fits-below (fabric t) hops
      (λ v. subst (λ (k : ℕ). k < 2 ^ 64)
      (sym (same-size (fabric (empty_table plan sizes hops whole)) (rules_at t) hops v)) (fits v))

  pub is-kept : ((v : ℕ) → hop_size (fabric (empty_table plan sizes hops whole)) hops v < 2 ^ 64)
      → length whole ≡ length plan.virtuals →
      (last : List NodeOf) → length last ≡ length (ends plan) → AllByRecursion IsLast last → (r : Rising)
      → suc (length r.levels) ≡ hops → IsRisen (fabric t) (ends plan) (length gs) r →
      (top : Level) → top.stands ≡ filter_map (joint_stand whole r.peers) (outside_joints plan)
      → length top.nodes ≡ length top.stands → AllByRecursion (IsEmptyNode false) top.nodes →
      IsKept t (record { given = gs; last = last; levels = r.levels; top = top })
  is-kept fits wholes last many lasts r above risen top stands nodes empty =
      let f = fabric t in
      let m = length r.levels in
      let outside = recursion_from_All (λ (j : Joint). j.0.0 < length plan.virtuals) (outside_joints plan)
      (outside_within plan) in
      let there : AllByRecursion (λ (s : Stand). s.at.v < length gs) top.stands =
      subst (AllByRecursion (λ (s : Stand). s.at.v < length gs)) (sym stands)
      (stands-all whole r.peers (λ (s : Stand). s.at.v < length gs) (outside_joints plan)
      (subst (λ (n : ℕ). AllByRecursion (λ (j : Joint). j.0.0 < n) (outside_joints plan)) (sym (count ∙ virtuals))
      outside)) in
      let sized : AllByRecursion (λ (s : Stand). s.size ≡ peers_size (hop_size f m) (f.links s.at.v)) top.stands =
      subst (AllByRecursion (λ (s : Stand). s.size ≡ peers_size (hop_size f m) (f.links s.at.v))) (sym stands)
      (stands-all whole r.peers (λ (s : Stand). s.size ≡ peers_size (hop_size f m) (f.links s.at.v))
      (outside_joints plan)
      (all-from (λ (j : Joint). j.0.0 < length plan.virtuals)
      (λ (j : Joint). size_at r.peers j.0.0 ≡ peers_size (hop_size f m) (f.links j.0.0))
      (λ j lt. risen.peers j.0.0 (let h = count ∙ virtuals in omega arith)) (outside_joints plan) outside)) in
      record {
        rules = refl;
        sizes = sym count;
        whole = wholes ∙ sym (count ∙ virtuals);
        given = is-given;
        rising = all-rise (ends plan) gs each;
        listed = all-listed (ends plan) gs each;
        last = last-row last lasts f (ends plan) many;
        last_rising = last-rises last lasts;
        made = empty-levels gs (no-rules (ends plan) gs each) f (ends plan) ends-there r.levels 0 last top
            (λ k lt. subst (λ (n : ℕ). IsEmptyLevel f (ends plan) n (get_or r.levels k no_level))
            (let h : k ≡ 0 + k = omega arith in h) (risen.levels k lt))
            (λ b. subst (λ (n : ℕ). IsMade f n gs b top) (let h : m ≡ 0 + m = omega arith in h)
            (empty-made gs (no-rules (ends plan) gs each) f m b top false nodes there sized empty));
        hops = above;
        ports = ap (map (λ (s : Stand). s.at)) stands ∙ ports-are whole r.peers (outside_joints plan);
        fits = fits-all fits;
      }
