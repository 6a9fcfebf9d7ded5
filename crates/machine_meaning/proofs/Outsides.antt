-- Outside ports of a virtual switch, and virtual switches that have no links.
use Rattle.std.proofs.Common.{◌≡◌, ◌∙◌, ℕ, zero, suc, ◌+◌, ◌==◌, Bool, true, false, true≢false, not, ◌&&◌, ◌||◌, cond}
use Rattle.std.proofs.Common.{List, [], ◌∷◌, ◌++◌, map, filter, Option, Some, None, refl, sym, ap, ap₂, subst, eq-eqb}
use Rattle.std.specs.Prelude.{filter_map, flat_map, if◌then◌else◌, is_none, is_some, slice_get}
use Rattle.std.specs.List.{AllByRecursion, cons_option, enumerate_from, list_any}
use Rattle.std.specs.Option.{option_and_then, option_map, option_map_or}
use Rattle.policies.specs.Sound.{has_at_side, is_at_side}
use Rattle.policy_meaning.specs.Leaf.{has_port}
use Rattle.policy_setting.specs.Networks.{is_of, outside_ports}
use Rattle.policy_setting.proofs.Apart.{Faultless}
use Rattle.policy_setting.proofs.Parts.{all_first, all_second}
use Rattle.virtual_topology.specs.Faults.{place_text, unknown_place}
use Rattle.virtual_topology.specs.Places.{PlaceUse, at_use, in_role, item_uses, pair_uses, port_uses, virtual_uses}
use Rattle.virtual_topology.specs.Rows.{Row, Spot, rows, where_is}
use Rattle.virtual_topology.specs.Wires.{Joint, cable_joints, is_link, is_lone_of, is_lone_with, item_joints}
use Rattle.virtual_topology.specs.Wires.{outside_joints, outside_row}
use Rattle.virtual_topology.specs.declared.fault.TopologyFault.TheVariants.{Unknown}
use Rattle.virtual_topology.specs.declared.plan.PortPlace.{PortPlace}
use Rattle.virtual_topology.specs.declared.plan.TopologyPlan.{TopologyPlan}
use Rattle.virtual_topology.specs.declared.plan.VirtualItem.{VirtualItem}
use Rattle.virtual_topology.specs.declared.plan.VirtualPort.{VirtualPort}
use Rattle.virtual_topology.specs.declared.uses.Role.TheVariants.{Link, Physical}
use Rattle.machine_meaning.proofs.Numbered.{behind, from_zero, here}

-- the joint is of this port of this virtual switch
abbrev is_port : ℕ → ℕ → Joint → Bool
is_port v p j = is_of v j && (j.0.1 == p)

-- a place of a plan without fault is there
abbrev Known : List Row → PlaceUse → Type 0
Known rs u = unknown_place rs u ≡ None

-- a physical port that is known, by numbers
record IsFound (rs : List Row) (place : PortPlace) : Type 0 where
  spot : Spot
  is : where_is rs Physical place ≡ Some spot

found_at : (rs : List Row) (place : PortPlace) → Known rs (in_role Physical place) → IsFound rs place
found_at rs place h = by (where_is rs Physical place) refl h
  where
    by : (o : Option Spot) → where_is rs Physical place ≡ o
        → (if is_none o then Some (Unknown (place_text place)) else None) ≡ None → IsFound rs place
    by (Some s) e k = record { spot = s; is = e }
    by None e k = absurd (cc k)

any_later : (test : Joint → Bool) (o : Option Joint) (js : List Joint) → list_any test js ≡ true
    → list_any test (cons_option o js) ≡ true
any_later test None js h = h
any_later test (Some j) js h = by (test j)
  where
    by : (b : Bool) → (b || list_any test js) ≡ true
    by true = refl
    by false = h

-- an outside port of a virtual switch is one of its joints
port_joined : (rs : List Row) (name : List ℕ) (v p : ℕ) (qs : List VirtualPort)
    → AllByRecursion (Known rs) (flat_map (port_uses name) qs) → list_any (is_at_side false p) qs ≡ true
    → list_any (is_port v p) (filter_map (outside_row rs v) qs) ≡ true
port_joined rs name v p [] h e = absurd (true≢false (sym e))
port_joined rs name v p (q ∷ qs) h e =
    by q.at refl (q.port == p) refl e (all_first (Known rs) (port_uses name q) (flat_map (port_uses name) qs) h).1
    (port_joined rs name v p qs (all_second (Known rs) (port_uses name q) (flat_map (port_uses name) qs) h))
  where
    by : (at : Option PortPlace) → q.at ≡ at → (t : Bool) → (q.port == p) ≡ t
        → ((t && is_some at) || list_any (is_at_side false p) qs) ≡ true → AllByRecursion (Known rs) (at_use at)
        → (list_any (is_at_side false p) qs ≡ true → list_any (is_port v p) (filter_map (outside_row rs v) qs) ≡ true)
        → list_any (is_port v p)
        (cons_option (option_map (λ s. ((v, q.port), s)) (option_and_then (where_is rs Physical) at))
        (filter_map (outside_row rs v) qs)) ≡ true
    by None a true t k known rest = rest k
    by None a false t k known rest = rest k
    by (Some place) a false t k known rest =
        any_later (is_port v p) (option_map (λ s. ((v, q.port), s)) (where_is rs Physical place))
        (filter_map (outside_row rs v) qs) (rest k)
    by (Some place) a true t k known rest =
        let f = found_at rs place known.0 in
        ap (λ (o : Option Spot). list_any (is_port v p)
        (cons_option (option_map (λ s. ((v, q.port), s)) o) (filter_map (outside_row rs v) qs))) f.is
        ∙ ap₂ (λ (a b : Bool). (a && b) || list_any (is_port v p) (filter_map (outside_row rs v) qs))
        (eq-eqb v v refl) t

-- what one of a flat list's lists has
any_first : (test : Joint → Bool) (xs ys : List Joint) → list_any test xs ≡ true → list_any test (xs ++ ys) ≡ true
any_first test [] ys h = absurd (true≢false (sym h))
any_first test (x ∷ xs) ys h = by (test x) h (any_first test xs ys)
  where
    by : (b : Bool) → (b || list_any test xs) ≡ true
        → (list_any test xs ≡ true → list_any test (xs ++ ys) ≡ true) → (b || list_any test (xs ++ ys)) ≡ true
    by true k f = refl
    by false k f = f k

any_second : (test : Joint → Bool) (xs ys : List Joint) → list_any test ys ≡ true → list_any test (xs ++ ys) ≡ true
any_second test [] ys h = h
any_second test (x ∷ xs) ys h = by (test x) (any_second test xs ys h)
  where
    by : (b : Bool) → list_any test (xs ++ ys) ≡ true → (b || list_any test (xs ++ ys)) ≡ true
    by true k = refl
    by false k = k

any_numbered : {X : Type 0} (test : Joint → Bool) (f : ℕ × X → List Joint) (k n : ℕ) (xs : List X) (x : X)
    → slice_get xs n ≡ Some x → list_any test (f (k + n, x)) ≡ true
    → list_any test (flat_map f (enumerate_from k xs)) ≡ true
any_numbered test f k n [] x e h = absurd (cc e)
any_numbered test f k zero (y ∷ ys) x e h =
    let p : y ≡ x = cc e in
    any_first test (f (k, y)) (flat_map f (enumerate_from (k + 1) ys))
    (ap₂ (λ (i : ℕ) z. list_any test (f (i, z))) (here k) p ∙ h)
any_numbered test f k (suc n) (y ∷ ys) x e h =
    any_second test (f (k, y)) (flat_map f (enumerate_from (k + 1) ys))
    (any_numbered test f (k + 1) n ys x e (ap (λ (i : ℕ). list_any test (f (i, x))) (behind k n) ∙ h))

-- the ports of the joints of a virtual switch
ports_of : (v p : ℕ) (js : List Joint) → list_any (is_port v p) js ≡ true
    → has_port (map (λ (j : Joint). j.0.1) (filter (is_of v) js)) p ≡ true
ports_of v p [] h = absurd (true≢false (sym h))
ports_of v p (j ∷ js) h = by (is_of v j) (j.0.1 == p) refl h (ports_of v p js)
  where
    by : (a b : Bool) → (j.0.1 == p) ≡ b → ((a && b) || list_any (is_port v p) js) ≡ true
        → (list_any (is_port v p) js ≡ true → has_port (map (λ (j : Joint). j.0.1) (filter (is_of v) js)) p ≡ true)
        → has_port (map (λ (j : Joint). j.0.1) (cond a (j ∷ filter (is_of v) js) (filter (is_of v) js))) p ≡ true
    by true true e k f =
        ap (λ b. b || has_port (map (λ (j : Joint). j.0.1) (filter (is_of v) js)) p) e
    by true false e k f =
        ap (λ b. b || has_port (map (λ (j : Joint). j.0.1) (filter (is_of v) js)) p) e ∙ f k
    by false b e k f = f k

pub named_outside : (plan : TopologyPlan) → Faultless plan → (v : ℕ) (x : VirtualItem)
    → slice_get plan.virtuals v ≡ Some x
    → (p : ℕ) → has_at_side x false p ≡ true → has_port (outside_ports plan v) p ≡ true
named_outside plan f v x at p h =
    ports_of v p (outside_joints plan)
    (any_numbered (is_port v p) (item_joints (rows plan)) 0 v plan.virtuals x at
    (ap (λ (i : ℕ). list_any (is_port v p) (item_joints (rows plan) (i, x))) (from_zero v)
    ∙ port_joined (rows plan) x.name v p x.ports (known_item v plan.virtuals at known) h))
  where
    known : AllByRecursion (Known (rows plan)) (virtual_uses plan.virtuals)
    known =
        all_first (Known (rows plan)) (virtual_uses plan.virtuals) (pair_uses Link plan.links)
        (all_second (Known (rows plan)) (pair_uses Physical plan.cables)
        (virtual_uses plan.virtuals ++ pair_uses Link plan.links) f.known)

    known_item : (n : ℕ) (xs : List VirtualItem) → slice_get xs n ≡ Some x
        → AllByRecursion (Known (rows plan)) (virtual_uses xs) → AllByRecursion (Known (rows plan)) (item_uses x)
    known_item n [] e k = absurd (cc e)
    known_item zero (y ∷ ys) e k =
        let q : y ≡ x = cc e in
        subst (λ (z : VirtualItem). AllByRecursion (Known (rows plan)) (item_uses z)) q
        (all_first (Known (rows plan)) (item_uses y) (virtual_uses ys) k)
    known_item (suc n) (y ∷ ys) e k = known_item n ys e
        (all_second (Known (rows plan)) (item_uses y) (virtual_uses ys) k)

-- virtual switches that are alone -----------------------------------------------------------------------------------

and_first : (a b : Bool) → (a && b) ≡ true → a ≡ true
and_first true b h = refl
and_first false b h = h

and_second : (a b : Bool) → (a && b) ≡ true → b ≡ true
and_second true b h = h
and_second false b h = absurd (true≢false (sym h))

not_true : (b : Bool) → not b ≡ true → b ≡ false
not_true true h = absurd (true≢false (sym h))
not_true false h = refl

no_side : (p : ℕ) (qs : List VirtualPort) → list_any is_link qs ≡ false → list_any (is_at_side true p) qs ≡ false
no_side p [] h = refl
no_side p (q ∷ qs) h = by (is_none q.at) (q.port == p) h (no_side p qs)
  where
    by : (a b : Bool) → (a || list_any is_link qs) ≡ false
        → (list_any is_link qs ≡ false → list_any (is_at_side true p) qs ≡ false)
        → ((b && a) || list_any (is_at_side true p) qs) ≡ false
    by true b k f = absurd (true≢false k)
    by false true k f = f k
    by false false k f = f k

lone_unlinked : (cables outside js : List Joint) (v : ℕ) (x : VirtualItem) → is_lone_with cables outside v x js ≡ true
    → list_any is_link x.ports ≡ false
lone_unlinked cables outside [] v x h = absurd (true≢false (sym h))
lone_unlinked cables outside (j ∷ js) v x h =
    not_true (list_any is_link x.ports) (and_first (not (list_any is_link x.ports)) _ (and_second _ _ h))

-- a virtual switch that is alone has no link ports
pub lone_sides : (plan : TopologyPlan) (v : ℕ) (x : VirtualItem) → slice_get plan.virtuals v ≡ Some x
    → is_lone_of plan v ≡ true → (p : ℕ) → has_at_side x true p ≡ false
lone_sides plan v x at h p =
    let lone =
    ap (λ (o : Option VirtualItem). option_map_or (λ (y : VirtualItem).
    is_lone_with (cable_joints plan) (outside_joints plan) v y (item_joints (rows plan) (v, y))) o false) (sym at)
    ∙ h in
    no_side p x.ports
    (lone_unlinked (cable_joints plan) (outside_joints plan) (item_joints (rows plan) (v, x)) v x lone)
