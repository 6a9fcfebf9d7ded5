-- The exits of a virtual switch are its links, each at a place of its own.
use Rattle.std.proofs.Common.{◌≡◌, ℕ, zero, suc, ◌+◌, ◌<◌, ◌==◌, Bool, true, false, List, [], ◌∷◌, ◌++◌, Option, Some}
use Rattle.std.proofs.Common.{None, refl, ap, ◌∙◌, map, cond, arith}
use Rattle.std.specs.Prelude.{filter, filter_map, flat_map, option_map, if◌then◌else◌, slice_get}
use Rattle.std.specs.List.{AllByRecursion, cons_option, enumerate_from}
use Rattle.std.specs.Option.{option_map_or}
use Rattle.std.proofs.lemmas.List.{append-nil}
use Rattle.std.proofs.lemmas.List.Elements.{filter-append}
use Rattle.rule_ancestry.proofs.StoreLemmas.{eq-other}
use Rattle.virtual_topology.specs.declared.plan.TopologyPlan.{TopologyPlan}
use Rattle.virtual_topology.specs.declared.plan.VirtualItem.{VirtualItem}
use Rattle.virtual_topology.specs.declared.plan.VirtualPort.{VirtualPort}
use Rattle.virtual_topology.specs.Rows.{Spot}
use Rattle.virtual_topology.specs.Wires.{peer_of}
use Rattle.hop_rules.specs.Nodes.{Once}
use Rattle.hop_rules.specs.Links.{end, ends, exit_at, exit_link, exits, link_of, links, place, port_ends}
use Rattle.hop_rules.specs.declared.exits.Exit.{Exit}
use Rattle.hop_rules.specs.declared.exits.LinkEnd.{LinkEnd}
use Rattle.hop_rules.proofs.Names.{itself}

-- an end of this virtual switch
abbrev is_end : ℕ → LinkEnd → Bool
is_end v e = e.v == v

-- ---- exits are the ends of the virtual switch
exit-cond : (v n : ℕ) (e : LinkEnd) (rest : List Exit) (more : List LinkEnd) (t : Bool)
    → map exit_link rest ≡ map link_of more →
    map exit_link (cons_option (if t then Some (record { port = e.port; peer = e.peer; place = n }) else None) rest)
    ≡ map link_of (cond t (e ∷ more) more)
exit-cond v n e rest more true h = ap (λ z. link_of e ∷ z) h
exit-cond v n e rest more false h = h

exits-from : (v n : ℕ) (es : List LinkEnd)
    → map exit_link (filter_map (exit_at v) (enumerate_from n es)) ≡ map link_of (filter (is_end v) es)
exits-from v n [] = refl
exits-from v n (e ∷ es) = exit-cond v n e (filter_map (exit_at v) (enumerate_from (n + 1) es)) (filter (is_end v) es)
    (e.v == v) (exits-from v (n + 1) es)

-- ---- the ends of a virtual switch among those of all
module _ (plan : TopologyPlan) where
  end-of : (u : ℕ) (q : VirtualPort) (o : Option Spot) → (v : ℕ) (t : Bool) → (u == v) ≡ t → (rest : List LinkEnd) →
      filter (is_end v) (cons_option (option_map (λ s. record { v = u; port = q.port; peer = place s }) o) rest)
      ≡ (if t then cons_option (option_map (λ s. record { v = u; port = q.port; peer = place s }) o)
      (filter (is_end v) rest) else filter (is_end v) rest)
  end-of u q None v true e rest = refl
  end-of u q None v false e rest = refl
  end-of u q (Some s) v true e rest =
      ap (λ t. cond t (record { v = u; port = q.port; peer = place s } ∷ filter (is_end v) rest)
      (filter (is_end v) rest)) e
  end-of u q (Some s) v false e rest =
      ap (λ t. cond t (record { v = u; port = q.port; peer = place s } ∷ filter (is_end v) rest)
      (filter (is_end v) rest)) e

  own-ends : (v : ℕ) (qs : List VirtualPort)
      → filter (is_end v) (filter_map (end plan v) qs) ≡ filter_map (end plan v) qs
  own-ends v [] = refl
  own-ends v (q ∷ qs) = end-of v q (peer_of plan v q.port) v true (itself v) (filter_map (end plan v) qs)
      ∙ ap (cons_option (end plan v q)) (own-ends v qs)

  other-ends : (u v : ℕ) (qs : List VirtualPort) → (u == v) ≡ false
      → filter (is_end v) (filter_map (end plan u) qs) ≡ []
  other-ends u v [] e = refl
  other-ends u v (q ∷ qs) e = end-of u q (peer_of plan u q.port) v false e (filter_map (end plan u) qs)
      ∙ other-ends u v qs e

  later-ends : (v n : ℕ) (xs : List VirtualItem) → v < n
      → filter (is_end v) (flat_map (port_ends plan) (enumerate_from n xs)) ≡ []
  later-ends v n [] lt = refl
  later-ends v n (x ∷ xs) lt =
      filter-append (is_end v) (filter_map (end plan n) x.ports) (flat_map (port_ends plan) (enumerate_from (n + 1) xs))
      ∙ ap (λ z. z ++ filter (is_end v) (flat_map (port_ends plan) (enumerate_from (n + 1) xs)))
      (other-ends n v x.ports (eq-other n v (omega arith)))
      ∙ later-ends v (n + 1) xs (omega arith)

  ends-at : (n k v : ℕ) (xs : List VirtualItem) → n + k ≡ v
      → filter (is_end v) (flat_map (port_ends plan) (enumerate_from n xs))
      ≡ option_map_or (λ x. port_ends plan (v, x)) (slice_get xs k) []
  ends-at n k v [] e = refl
  ends-at n zero v (x ∷ xs) e =
      let same : n ≡ v = omega arith in
      filter-append (is_end v) (filter_map (end plan n) x.ports) (flat_map (port_ends plan) (enumerate_from (n + 1) xs))
      ∙ ap (λ z. filter (is_end v) (filter_map (end plan n) x.ports) ++ z) (later-ends v (n + 1) xs (omega arith))
      ∙ append-nil (filter (is_end v) (filter_map (end plan n) x.ports))
      ∙ ap (λ u. filter (is_end v) (filter_map (end plan u) x.ports)) same
      ∙ own-ends v x.ports
  ends-at n (suc k) v (x ∷ xs) e =
      filter-append (is_end v) (filter_map (end plan n) x.ports) (flat_map (port_ends plan) (enumerate_from (n + 1) xs))
      ∙ ap (λ z. z ++ filter (is_end v) (flat_map (port_ends plan) (enumerate_from (n + 1) xs)))
      (other-ends n v x.ports (eq-other n v (omega arith)))
      ∙ ends-at (n + 1) k v xs (omega arith)

  mapped-or : (o : Option VirtualItem) (v : ℕ)
      → map link_of (option_map_or (λ x. port_ends plan (v, x)) o [])
      ≡ option_map_or (λ x. map link_of (port_ends plan (v, x))) o []
  mapped-or None v = refl
  mapped-or (Some x) v = refl

  -- the exits of a virtual switch are its links
  pub exits-linked : (v : ℕ) → map exit_link (exits (ends plan) v) ≡ links plan v
  exits-linked v =
      exits-from v 0 (ends plan) ∙ ap (map link_of) (ends-at 0 v v plan.virtuals (omega arith))
      ∙ mapped-or (slice_get plan.virtuals v) v

-- ---- each exit has a place of its own
abbrev here : LinkEnd → ℕ → Bool → Option Exit
here e n t = if t then Some (record { port = e.port; peer = e.peer; place = n }) else None

later-by : (e : LinkEnd) (n m : ℕ) (rest : List Exit) (t : Bool) → (m == n) ≡ false
    → AllByRecursion (λ y. (m == y) ≡ false) (map (λ (e : Exit). e.place) rest) →
    AllByRecursion (λ y. (m == y) ≡ false) (map (λ (e : Exit). e.place) (cons_option (here e n t) rest))
later-by e n m rest true d a = (d, a)
later-by e n m rest false d a = a

places-later : (v n m : ℕ) (es : List LinkEnd) → m < n
    → AllByRecursion (λ y. (m == y) ≡ false)
    (map (λ (e : Exit). e.place) (filter_map (exit_at v) (enumerate_from n es)))
places-later v n m [] lt = tt
places-later v n m (e ∷ es) lt = later-by e n m (filter_map (exit_at v) (enumerate_from (n + 1) es)) (e.v == v)
    (eq-other m n (omega arith)) (places-later v (n + 1) m es (omega arith))

once-by : (e : LinkEnd) (n : ℕ) (rest : List Exit) (t : Bool)
    → AllByRecursion (λ y. (n == y) ≡ false) (map (λ (e : Exit). e.place) rest)
    → Once (map (λ (e : Exit). e.place) rest) →
    Once (map (λ (e : Exit). e.place) (cons_option (here e n t) rest))
once-by e n rest true a o = (a, o)
once-by e n rest false a o = o

places-once : (v n : ℕ) (es : List LinkEnd)
    → Once (map (λ (e : Exit). e.place) (filter_map (exit_at v) (enumerate_from n es)))
places-once v n [] = tt
places-once v n (e ∷ es) = once-by e n (filter_map (exit_at v) (enumerate_from (n + 1) es)) (e.v == v)
    (places-later v (n + 1) n es (omega arith)) (places-once v (n + 1) es)

pub exits-once : (es : List LinkEnd) (v : ℕ) → Once (map (λ (e : Exit). e.place) (exits es v))
exits-once es v = places-once v 0 es
