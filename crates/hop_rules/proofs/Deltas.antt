-- What the deltas of ports say of each place.
use Rattle.std.proofs.Common.{◌≡◌, ℕ, zero, suc, ◌+◌, ◌<◌, Bool, true, false, ◌==◌, ◌&&◌, cond, List, [], ◌∷◌, ◌++◌}
use Rattle.std.proofs.Common.{Option, Some, None, Contains, refl, sym, ap, ◌∙◌, subst, length, map, append_assoc, arith}
use Rattle.std.specs.Prelude.{IsPermutation, find, if◌then◌else◌}
use Rattle.std.specs.List.{AllByRecursion}
use Rattle.std.specs.Option.{option_map_or}
use Rattle.std.proofs.lemmas.List.{append-nil, get_or_default, length-map}
use Rattle.policy_meaning.specs.declared.network.Place.{Place}
use Rattle.rule_ancestry.specs.Holding.{Held, id_of, item_of}
use Rattle.made_rules.specs.Rules.{rule_of}
use Rattle.made_rules.specs.declared.made.Made.{Made}
use Rattle.hop_rules.specs.Levels.{no_stand, stand_at, told_at}
use Rattle.hop_rules.specs.Links.{no_place}
use Rattle.hop_rules.specs.Nodes.{NodeOf, held_at}
use Rattle.hop_rules.specs.Tables.{AreDeltas, AreOfPorts, ChangesBy, TableOf, is_of, own_ports, port_rules}
use Rattle.hop_rules.specs.Telling.{delta_if, delta_of, deltas_from, is_still, rules_held, rules_under}
use Rattle.hop_rules.specs.Turns.{IsTold}
use Rattle.hop_rules.specs.declared.delta.PortDelta.{PortDelta}
use Rattle.hop_rules.specs.declared.level.Stand.{Stand}
use Rattle.hop_rules.specs.declared.level.Told.{Told}
use Rattle.hop_rules.proofs.Changes.{told-changes}
use Rattle.hop_rules.proofs.Names.{is-same, itself}
use Rattle.hop_rules.proofs.Numbering.{map-at}

-- ---- lists that are empty
no-length : {X : Type 0} (xs : List X) → (length xs == 0) ≡ true → xs ≡ []
no-length [] e = refl
no-length (x ∷ xs) e = absurd (let h = is-same (length (x ∷ xs)) 0 e in omega (arith, h))

no-map : {X Y : Type 0} (f : X → Y) (xs : List X) → map f xs ≡ [] → xs ≡ []
no-map f [] e = refl
no-map f (x ∷ xs) e = absurd (cc)

both-true : (a b : Bool) → (a && b) ≡ true → (a ≡ true) × (b ≡ true)
both-true true b e = (refl, e)
both-true false b e = absurd (cc)

-- where nothing is told, nothing left
still-left : (before after : List (Held Made)) (told : Told) → is_still told.turn ≡ true
    → IsTold before after told.turn told.left → (told.left ≡ []) × (told.turn.come ≡ [])
still-left before after told s t =
    let two = both-true (length told.turn.gone == 0) (length told.turn.come == 0) s in
    let going = no-map id_of t.turned.going (t.turned.gone_are ∙ no-length told.turn.gone two.0) in
    (no-map rule_of told.left (t.left_are ∙ ap (map item_of) going), no-length told.turn.come two.1)

-- ---- what holds of the deltas that are told
abbrev place_of : PortDelta → Place
place_of d = record { v = d.v; port = d.port }

same-place : (p : Place) (d : PortDelta) → is_of p d ≡ true → place_of d ≡ p
same-place p d e =
    let two = both-true (d.v == p.v) (d.port == p.port) e in
    λ i. record { v = is-same d.v p.v two.0 i; port = is-same d.port p.port two.1 i }

is-of-itself : (d : PortDelta) (p : Place) → place_of d ≡ p → is_of p d ≡ true
is-of-itself d p e = subst (λ (q : Place). is_of q d ≡ true) e
    (ap (λ t. t && (d.port == d.port)) (itself d.v) ∙ itself d.port)

module _ (P : PortDelta → Type 0) (p : Place) where
  found-by : (d : PortDelta) (ds : List PortDelta) (t : Bool) → is_of p d ≡ t → P d
      → ((f : PortDelta) → find (is_of p) ds ≡ Some f → P f × (place_of f ≡ p)) →
      (f : PortDelta) → cond t (Some d) (find (is_of p) ds) ≡ Some f → P f × (place_of f ≡ p)
  found-by d ds true e a next f s = let h : d ≡ f = cc in
      subst (λ (x : PortDelta). P x × (place_of x ≡ p)) h (a, same-place p d e)
  found-by d ds false e a next f s = next f s

  -- what is found is told, and of this place
  pub found : (ds : List PortDelta) → AllByRecursion P ds → (f : PortDelta) → find (is_of p) ds ≡ Some f
      → P f × (place_of f ≡ p)
  found [] a f s = absurd (cc)
  found (d ∷ ds) a f s = found-by d ds (is_of p d) refl a.0 (found ds a.1) f s

module _ (stands : List Stand) (nodes : List NodeOf) where
  abbrev at : ℕ → Place
  at k = (stand_at stands k).at

  -- what holds of each delta, if there is one
  module _ (P : PortDelta → Type 0) where
    each-by : (k : ℕ) (told : Told) (rest : List PortDelta) (t : Bool)
        → (t ≡ false → P (delta_of (at k) (held_at nodes k) told)) → AllByRecursion P rest →
        AllByRecursion P ((if t then [] else delta_of (at k) (held_at nodes k) told ∷ []) ++ rest)
    each-by k told rest true a b = b
    each-by k told rest false a b = (a refl, b)

    pub each : (tolds : List Told) (k : ℕ)
        → ((j : ℕ) → j < length tolds → P (delta_of (at (k + j)) (held_at nodes (k + j)) (told_at tolds j)))
        → AllByRecursion P (deltas_from stands nodes k tolds)
    each [] k a = tt
    each (told ∷ tolds) k a =
        each-by k told (deltas_from stands nodes (suc k) tolds) (is_still told.turn)
        (λ e. subst (λ (n : ℕ). P (delta_of (at n) (held_at nodes n) told)) (let h : k + 0 ≡ k = omega arith in h)
        (a 0 (omega arith)))
        (each tolds (suc k) (λ j lt. subst (λ (n : ℕ). P (delta_of (at n) (held_at nodes n) (told_at tolds j)))
        (let h : k + suc j ≡ suc k + j = omega arith in h) (a (suc j) (omega arith))))

  -- where none is found of a place, nothing is told of it
  module _ (p : Place) where
    none-here : (k : ℕ) (told : Told) (rest : List PortDelta) (t : Bool) → at k ≡ p
        → find (is_of p) ((if t then [] else delta_of (at k) (held_at nodes k) told ∷ []) ++ rest) ≡ None → t ≡ true
    none-here k told rest true e s = refl
    none-here k told rest false e s =
        let h = is-of-itself (delta_of (at k) (held_at nodes k) told) p e in
        let z : Some (delta_of (at k) (held_at nodes k) told) ≡ None =
        sym (ap (λ t. cond t (Some (delta_of (at k) (held_at nodes k) told)) (find (is_of p) rest)) h) ∙ s in
        absurd (cc)

    none-cond : (d : PortDelta) (rest : List PortDelta) (t : Bool) → cond t (Some d) (find (is_of p) rest) ≡ None
        → find (is_of p) rest ≡ None
    none-cond d rest true s = absurd (cc)
    none-cond d rest false s = s

    none-later : (k : ℕ) (told : Told) (rest : List PortDelta) (t : Bool)
        → find (is_of p) ((if t then [] else delta_of (at k) (held_at nodes k) told ∷ []) ++ rest) ≡ None
        → find (is_of p) rest ≡ None
    none-later k told rest true s = s
    none-later k told rest false s = none-cond (delta_of (at k) (held_at nodes k) told) rest
        (is_of p (delta_of (at k) (held_at nodes k) told)) s

    pub still-there : (tolds : List Told) (k j : ℕ) → j < length tolds → at (k + j) ≡ p
        → find (is_of p) (deltas_from stands nodes k tolds) ≡ None → is_still (told_at tolds j).turn ≡ true
    still-there [] k j lt e s = absurd (omega arith)
    still-there (told ∷ tolds) k zero lt e s =
        none-here k told (deltas_from stands nodes (suc k) tolds) (is_still told.turn)
        (ap at (let h : k ≡ k + 0 = omega arith in h) ∙ e) s
    still-there (told ∷ tolds) k (suc j) lt e s =
        still-there tolds (suc k) j (omega arith) (ap at (let h : suc k + j ≡ k + suc j = omega arith in h) ∙ e)
        (none-later k told (deltas_from stands nodes (suc k) tolds) (is_still told.turn) s)

  -- one more at the end
  pub deltas-push : (tolds : List Told) (told : Told) (k n : ℕ) → k + length tolds ≡ n
      → deltas_from stands nodes k (tolds ++ told ∷ [])
      ≡ deltas_from stands nodes k tolds ++ delta_if (at n) (held_at nodes n) told
  deltas-push [] told k n e =
      let h : k ≡ n = omega arith in
      append-nil (delta_if (at k) (held_at nodes k) told) ∙ ap (λ (m : ℕ). delta_if (at m) (held_at nodes m) told) h
  deltas-push (t ∷ ts) told k n e =
      ap (λ z. delta_if (at k) (held_at nodes k) t ++ z) (deltas-push ts told (suc k) n (omega arith))
      ∙ sym (append_assoc (delta_if (at k) (held_at nodes k) t) (deltas_from stands nodes (suc k) ts)
      (delta_if (at n) (held_at nodes n) told))

-- ---- the deltas of a table
module _ (t u : TableOf) (stands : List Stand) (before after : List NodeOf) (tolds : List Told)
    (count : length tolds ≡ length stands) (ports : map (λ (s : Stand). s.at) stands ≡ own_ports t)
    (each-told : (k : ℕ) → k < length stands
    → IsTold (held_at before k) (held_at after k) (told_at tolds k).turn (told_at tolds k).left)
    (was : (k : ℕ) → k < length stands
    → IsPermutation (rules_held (held_at before k)) (port_rules t (stand_at stands k).at))
    (is : (k : ℕ) → k < length stands
    → IsPermutation (rules_held (held_at after k)) (port_rules u (stand_at stands k).at)) where
  abbrev deltas : List PortDelta
  deltas = deltas_from stands after 0 tolds

  abbrev Says : PortDelta → Type 0
  Says d = ChangesBy (port_rules t (place_of d)) (port_rules u (place_of d)) d.gone d.come

  says-at : (k : ℕ) → k < length stands
      → ChangesBy (port_rules t (stand_at stands k).at) (port_rules u (stand_at stands k).at)
      (map rule_of (told_at tolds k).left) (rules_under (held_at after k) (told_at tolds k).turn.come)
  says-at k lt = told-changes (held_at before k) (held_at after k) (told_at tolds k).turn (told_at tolds k).left _ _
      (each-told k lt) (was k lt) (is k lt)

  all-say : AllByRecursion Says deltas
  all-say =
      each stands after Says tolds 0
      (λ j lt. subst (λ (n : ℕ). Says (delta_of (stand_at stands n).at (held_at after n) (told_at tolds j)))
      (let h : j ≡ 0 + j = omega arith in h) (says-at j (omega arith)))

  port-at : (k : ℕ) → k < length stands → Contains (own_ports t) (stand_at stands k).at
  port-at k lt = subst (λ (ps : List Place). Contains ps (stand_at stands k).at) ports (
    k,
    let h = length-map stands (λ (s : Stand). s.at) in
        omega arith,
    get_or_default (map (λ (s : Stand). s.at) stands) k _ no_place
        (let h = length-map stands (λ (s : Stand). s.at) in omega arith)
        ∙ map-at (λ (s : Stand). s.at) no_stand stands k,
  )

  abbrev IsPort : PortDelta → Type 0
  IsPort d = Contains (own_ports t) (place_of d)

  all-ports : AllByRecursion IsPort deltas
  all-ports =
      each stands after IsPort tolds 0
      (λ j lt. subst (λ (n : ℕ). IsPort (delta_of (stand_at stands n).at (held_at after n) (told_at tolds j)))
      (let h : j ≡ 0 + j = omega arith in h) (port-at j (omega arith)))

  number-of : (p : Place) → Contains (own_ports t) p → (k : ℕ) × ((k < length stands) × ((stand_at stands k).at ≡ p))
  number-of p c =
      let d = subst (λ (ps : List Place). Contains ps p) (sym ports) c in
      let lt : d.0 < length stands = let h = length-map stands (λ (s : Stand). s.at) in let x = d.1 in omega arith in (
        d.0,
        (
          lt,
          sym (map-at (λ (s : Stand). s.at) no_stand stands d.0)
              ∙ get_or_default (map (λ (s : Stand). s.at) stands) d.0 no_place p d.1 ∙ d.2,
        ),
      )

  of-port : (p : Place) → Contains (own_ports t) p → (o : Option PortDelta) → find (is_of p) deltas ≡ o →
      ChangesBy (port_rules t p) (port_rules u p) (option_map_or (λ (d : PortDelta). d.gone) o [])
      (option_map_or (λ (d : PortDelta). d.come) o [])
  of-port p c None s =
      let k = number-of p c in
      let still = still-there stands after p tolds 0 k.0 (let x = k.1.0 in omega arith)
      (ap (λ (n : ℕ). (stand_at stands n).at) (let h : 0 + k.0 ≡ k.0 = omega arith in h) ∙ k.1.1) s in
      let left = still-left (held_at before k.0) (held_at after k.0) (told_at tolds k.0) still (each-told k.0 k.1.0) in
      let a = says-at k.0 k.1.0 in
      let b =
      subst (λ (z : List Made). ChangesBy (port_rules t (stand_at stands k.0).at)
      (port_rules u (stand_at stands k.0).at) (map rule_of z)
      (rules_under (held_at after k.0) (told_at tolds k.0).turn.come)) left.0 a in
      let d =
      subst (λ (z : List ℕ). ChangesBy (port_rules t (stand_at stands k.0).at)
      (port_rules u (stand_at stands k.0).at) [] (rules_under (held_at after k.0) z)) left.1 b in
      subst (λ (q : Place). ChangesBy (port_rules t q) (port_rules u q) [] []) k.1.1 d
  of-port p c (Some f) s =
      let h = found Says p deltas all-say f s in
      subst (λ (q : Place). ChangesBy (port_rules t q) (port_rules u q) f.gone f.come) h.1 h.0

  pub are-deltas : AreDeltas t u deltas
  are-deltas p c = of-port p c (find (is_of p) deltas) refl

  none-of : (p : Place) → (Contains (own_ports t) p → ⊥) → (o : Option PortDelta) → find (is_of p) deltas ≡ o → o ≡ None
  none-of p n None s = refl
  none-of p n (Some f) s = let h = found IsPort p deltas all-ports f s in
      absurd (n (subst (Contains (own_ports t)) h.1 h.0))

  pub of-ports : AreOfPorts t deltas
  of-ports = record {
    gone = λ p n. ap (λ (o : Option PortDelta). option_map_or (λ (d : PortDelta). d.gone) o [])
        (none-of p n (find (is_of p) deltas) refl);
    come = λ p n. ap (λ (o : Option PortDelta). option_map_or (λ (d : PortDelta). d.come) o [])
        (none-of p n (find (is_of p) deltas) refl);
  }
