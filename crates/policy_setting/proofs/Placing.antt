-- Where the outside ports of a plan without fault lie, as its wiring says.
use Rattle.std.proofs.Common.{◌≡◌, ◌∙◌, sym, ap, subst, ℕ, suc, ◌+◌, ◌<◌, ◌==◌, ◌&&◌, ◌||◌, Bool, true, false, cond}
use Rattle.std.proofs.Common.{List, [], ◌∷◌, ◌++◌, Option, Some, None, map, inl, inr, ◌⊎◌, arith, refl}
use Rattle.std.specs.Prelude.{slice_get, flat_map, filter_map, filter, find, is_some, IfSome, if◌then◌else◌}
use Rattle.std.specs.List.{AllByRecursion, enumerate_from, list_any}
use Rattle.std.specs.Map.{lookup}
use Rattle.std.specs.Option.{option_map, option_map_or, option_and_then}
use Rattle.std.proofs.lemmas.Bool.{eqb-true, eq-eqb}
use Rattle.agreement.specs.Premises.{cable_ends, outside_ports as port_list}
use Rattle.agreement.proofs.Finding.{find-gives, if-found, is_some-find}
use Rattle.agreement.proofs.Cables.{found-there}
use Rattle.policy_expr.specs.Policy.{Policy}
use Rattle.policy_meaning.proofs.Booleans.{split_and, join_and, fails, some_injective}
use Rattle.policy_meaning.specs.Leaf.{has_port}
use Rattle.policy_meaning.specs.LeafFact.{EachPair}
use Rattle.policy_meaning.specs.Switches.{SwitchOf}
use Rattle.switch_meaning.specs.FiringLaw.{IsSoundWiring}
use Rattle.switch_meaning.specs.Wirings.{other_end, far_end, outside_at, same_spot as same_port}
use Rattle.switch_meaning.specs.declared.wiring.Cable.{Cable}
use Rattle.switch_meaning.specs.declared.wiring.Outside.{Outside}
use Rattle.switch_meaning.specs.declared.wiring.SwitchPort.{SwitchPort}
use Rattle.virtual_topology.specs.declared.plan.TopologyPlan.{TopologyPlan}
use Rattle.virtual_topology.specs.declared.plan.VirtualItem.{VirtualItem}
use Rattle.virtual_topology.specs.Rows.{Spot, same_spot}
use Rattle.virtual_topology.specs.Wires.{Joint, outside_joints, cable_joints}
use Rattle.virtual_topology.proofs.Steps.{numbered_get}
use Rattle.policy_setting.specs.Networks.{is_of, outside_ports, virtual_switch}
use Rattle.policy_setting.specs.Premises.{HaveNumbers}
use Rattle.policy_setting.specs.Settings.{expr_at, holds_at, switches}
use Rattle.policy_setting.specs.Wirings.{switch_port, outside, cable, wiring}
use Rattle.policy_setting.proofs.Parts.{Met, met_found, all_weaker, all_of_two, mapped_all, mapped_pairs, pairs_weaker}
use Rattle.policy_setting.proofs.Apart.{Faultless, joint_ends}
use Rattle.policy_setting.proofs.Joints.{Differ, IsOutside, outside_are, physical_once, virtual_once, cables_once}
use Rattle.policy_setting.proofs.Joints.{cables_open, all_units}

-- a port that is found is one of the list
pub found_is : (P : Outside → Type 0) (xs : List Outside) (v p : ℕ) (a : Outside) → AllByRecursion P xs
    → find (λ (o : Outside). (o.v == v) && (o.port == p)) xs ≡ Some a → P a
found_is P xs v p a h e = (find-gives P (λ (o : Outside). (o.v == v) && (o.port == p)) xs a h e).0

numbers_are : (plan : TopologyPlan) → HaveNumbers plan.switches
    → AllByRecursion (λ (o : Outside). o.at.port < 65280) (wiring plan).outside
numbers_are plan h = mapped_all (outside plan) (λ (o : Outside). o.at.port < 65280) (outside_joints plan)
    (all_weaker (IsOutside plan) (λ (j : Joint). j.1.1 < 65280) (λ j k. k.number) (outside_joints plan)
    (outside_are plan h))

-- two spots of one switch and port are one
port_spot : (s t : Spot) → switch_port s ≡ switch_port t → s ≡ t
port_spot s t e = λ i. ((e i).switch, (e i).port)

spots_apart : (plan : TopologyPlan) → HaveNumbers plan.switches → Faultless plan
    → EachPair (λ (a b : Outside). Differ a.at b.at) (wiring plan).outside
spots_apart plan h f = mapped_pairs (outside plan) (λ (a b : Outside). Differ a.at b.at) (outside_joints plan)
    (pairs_weaker (λ _. Unit {0}) (λ (j k : Joint). Differ j.1 k.1)
    (λ (j k : Joint). Differ (switch_port j.1) (switch_port k.1)) (λ j k _ _ d e. d (port_spot j.1 k.1 e))
    (outside_joints plan) (all_units (outside_joints plan)) (physical_once plan h f))

same_port_is : (a b : SwitchPort) → a.switch ≡ b.switch → a.port ≡ b.port → a ≡ b
same_port_is a b s p = λ i. record { switch = s i; port = p i }

-- found under two numbers, one port has both
one_found : (xs : List Outside) (v p u q : ℕ) (a b : Outside)
    → find (λ (o : Outside). (o.v == v) && (o.port == p)) xs ≡ Some a
    → find (λ (o : Outside). (o.v == u) && (o.port == q)) xs ≡ Some b → a ≡ b → (v ≡ u) × (p ≡ q)
one_found xs v p u q a b e f same =
    let m = (found-there v p xs a e).0 in
    let n = (found-there u q xs b f).0 in
    (sym m.0 ∙ (ap (λ (o : Outside). o.v) same ∙ n.0), sym m.1 ∙ (ap (λ (o : Outside). o.port) same ∙ n.1))

met_apart : (xs : List Outside) (v p u q : ℕ) (a b : Outside)
    → find (λ (o : Outside). (o.v == v) && (o.port == p)) xs ≡ Some a
    → find (λ (o : Outside). (o.v == u) && (o.port == q)) xs ≡ Some b → a.at ≡ b.at
    → Met (λ (a b : Outside). Differ a.at b.at) a b → (v ≡ u) × (p ≡ q)
met_apart xs v p u q a b e f same (inl one) = one_found xs v p u q a b e f one
met_apart xs v p u q a b e f same (inr (inl d)) = absurd (d same)
met_apart xs v p u q a b e f same (inr (inr d)) = absurd (d (sym same))

pub wiring_sound : (plan : TopologyPlan) → HaveNumbers plan.switches → Faultless plan → IsSoundWiring (wiring plan)
wiring_sound plan h f = record {
  numbers = λ v p. if-found (λ (o : Outside). o.at.port < 65280) (outside_at (wiring plan) v p)
      (λ a e. found_is (λ (o : Outside). o.at.port < 65280) (wiring plan).outside v p a (numbers_are plan h) e);
  apart = λ v p u q a b e k s t. met_apart (wiring plan).outside v p u q a b e k (same_port_is a.at b.at s t)
      (met_found (λ (a b : Outside). Differ a.at b.at) (wiring plan).outside (spots_apart plan h f)
      (λ (o : Outside). (o.v == v) && (o.port == p)) (λ (o : Outside). (o.v == u) && (o.port == q)) a b e k);
}

-- no outside port stands twice
same_spots : (s t : Spot) → s.0 ≡ t.0 → s.1 ≡ t.1 → s ≡ t
same_spots s t a b = λ i. (a i, b i)

pub once : (plan : TopologyPlan) → Faultless plan
    → EachPair (λ (a b : Outside). ((b.v == a.v) && (b.port == a.port)) ≡ false) (wiring plan).outside
once plan f = mapped_pairs (outside plan) (λ (a b : Outside). ((b.v == a.v) && (b.port == a.port)) ≡ false)
    (outside_joints plan)
    (pairs_weaker (λ _. Unit {0}) (λ (j k : Joint). Differ j.0 k.0)
    (λ (j k : Joint). ((k.0.0 == j.0.0) && (k.0.1 == j.0.1)) ≡ false)
    (λ j k _ _ d. fails ((k.0.0 == j.0.0) && (k.0.1 == j.0.1))
    (λ t. let s = split_and (k.0.0 == j.0.0) (k.0.1 == j.0.1) t in
    d (same_spots j.0 k.0 (sym (eqb-true k.0.0 j.0.0 s.0)) (sym (eqb-true k.0.1 j.0.1 s.1)))))
    (outside_joints plan) (all_units (outside_joints plan)) (virtual_once plan f))

-- a virtual switch by number
pub switch_at : (plan : TopologyPlan) (exprs : List Policy) (seen : List Bool) (v : ℕ)
    → slice_get (switches plan exprs seen) v
    ≡ option_map (λ (x : VirtualItem). virtual_switch plan (expr_at exprs v) (holds_at seen v) (v, x))
    (slice_get plan.virtuals v)
switch_at plan exprs seen v =
    let p : 0 + v ≡ v = omega arith in
    numbered_get (λ (v : ℕ × VirtualItem). virtual_switch plan (expr_at exprs v.0) (holds_at seen v.0) v) 0
    plan.virtuals v
    ∙ ap (λ (k : ℕ). option_map (λ (x : VirtualItem). virtual_switch plan (expr_at exprs k) (holds_at seen k) (k, x))
    (slice_get plan.virtuals v)) p

-- the wiring has the outside ports of the virtual switches
any_next : (j : Joint) (p : ℕ) (js : List Joint) (b t : Bool) → b ≡ has_port (map (λ (j : Joint). j.0.1) js) p
    → ((t && (j.0.1 == p)) || b) ≡ has_port (map (λ (j : Joint). j.0.1) (cond t (j ∷ js) js)) p
any_next j p js b true e = ap (λ (c : Bool). (j.0.1 == p) || c) e
any_next j p js b false e = e

any_of : (plan : TopologyPlan) (v p : ℕ) (js : List Joint)
    → list_any (λ (o : Outside). (o.v == v) && (o.port == p)) (map (outside plan) js)
    ≡ has_port (map (λ (j : Joint). j.0.1) (filter (is_of v) js)) p
any_of plan v p [] = refl
any_of plan v p (j ∷ js) = any_next j p (filter (is_of v) js)
    (list_any (λ (o : Outside). (o.v == v) && (o.port == p)) (map (outside plan) js)) (j.0.0 == v) (any_of plan v p js)

-- of no virtual switch there is none
none_next : (j : Joint) (js : List Joint) (t : Bool) → t ≡ false → js ≡ [] → cond t (j ∷ js) js ≡ []
none_next j js true e f = absurd (cc)
none_next j js false e f = f

none_of : (plan : TopologyPlan) (v : ℕ) (js : List Joint) → AllByRecursion (IsOutside plan) js
    → slice_get plan.virtuals v ≡ None → filter (is_of v) js ≡ []
none_of plan v [] h e = refl
none_of plan v (j ∷ js) h e =
    none_next j (filter (is_of v) js) (j.0.0 == v)
    (fails (j.0.0 == v) (λ t. let there : slice_get plan.virtuals v ≡ Some h.0.item =
    subst (λ (k : ℕ). slice_get plan.virtuals k ≡ Some h.0.item) (eqb-true j.0.0 v t) h.0.there in cc))
    (none_of plan v js h.1 e)

has_at : (plan : TopologyPlan) (exprs : List Policy) (seen : List Bool) → HaveNumbers plan.switches
    → (v p : ℕ) (o : Option VirtualItem) → slice_get plan.virtuals v ≡ o
    → has_port (outside_ports plan v) p
    ≡ has_port
    (port_list (option_map (λ (x : VirtualItem). virtual_switch plan (expr_at exprs v) (holds_at seen v) (v, x)) o))
    p
has_at plan exprs seen h v p None e = ap (λ (js : List Joint). has_port (map (λ (j : Joint). j.0.1) js) p)
    (none_of plan v (outside_joints plan) (outside_are plan h) e)
has_at plan exprs seen h v p (Some x) e = refl

pub same : (plan : TopologyPlan) (exprs : List Policy) (seen : List Bool) → HaveNumbers plan.switches → (v p : ℕ)
    → is_some (outside_at (wiring plan) v p) ≡ has_port (port_list (slice_get (switches plan exprs seen) v)) p
same plan exprs seen h v p =
    is_some-find (λ (o : Outside). (o.v == v) && (o.port == p)) (wiring plan).outside
    ∙ (any_of plan v p (outside_joints plan)
    ∙ (has_at plan exprs seen h v p (slice_get plan.virtuals v) refl
    ∙ sym (ap (λ (o : Option SwitchOf). has_port (port_list o) p) (switch_at plan exprs seen v))))

-- the ends of cables
ends_are : (js : List Joint) → cable_ends (map cable js) ≡ map switch_port (joint_ends js)
ends_are [] = refl
ends_are (j ∷ js) = ap (λ (ss : List SwitchPort). switch_port j.0 ∷ switch_port j.1 ∷ ss) (ends_are js)

pub unlike_ports : (s t : Spot) → Differ s t → same_port (switch_port t) (switch_port s) ≡ false
unlike_ports s t d = fails (same_port (switch_port t) (switch_port s))
    (λ e. let p = split_and (t.0 == s.0) (t.1 == s.1) e in
    d (same_spots s t (sym (eqb-true t.0 s.0 p.0)) (sym (eqb-true t.1 s.1 p.1))))

pub one_cable : (plan : TopologyPlan) → HaveNumbers plan.switches → Faultless plan
    → EachPair (λ (a b : SwitchPort). same_port b a ≡ false) (cable_ends (wiring plan).cables)
one_cable plan h f = subst (EachPair (λ (a b : SwitchPort). same_port b a ≡ false)) (sym (ends_are (cable_joints plan)))
    (mapped_pairs switch_port (λ (a b : SwitchPort). same_port b a ≡ false) (joint_ends (cable_joints plan))
    (pairs_weaker (λ _. Unit {0}) Differ (λ s t. same_port (switch_port t) (switch_port s) ≡ false)
    (λ s t _ _ d. unlike_ports s t d) (joint_ends (cable_joints plan)) (all_units (joint_ends (cable_joints plan)))
    (cables_once plan h f)))

-- no cable ends at an outside port
pub none_ends : (js : List Joint) (s : Spot) → AllByRecursion (λ (t : Spot). Differ t s) (joint_ends js)
    → other_end (map cable js) (switch_port s) ≡ None
none_ends [] s h = refl
none_ends (j ∷ js) s h =
    let a = unlike_ports s j.0 (λ e. h.0 (sym e)) in
    let b = unlike_ports s j.1 (λ e. h.1.0 (sym e)) in
    rw (a, b) (none_ends js s h.1.1)

pub open_ends : (plan : TopologyPlan) → HaveNumbers plan.switches → Faultless plan → (v p : ℕ)
    → IfSome (outside_at (wiring plan) v p) (λ o. far_end (wiring plan) o.at ≡ None)
open_ends plan h f v p = if-found (λ (o : Outside). far_end (wiring plan) o.at ≡ None) (outside_at (wiring plan) v p)
    (λ a e. found_is (λ (o : Outside). far_end (wiring plan) o.at ≡ None) (wiring plan).outside v p a
    (mapped_all (outside plan) (λ (o : Outside). far_end (wiring plan) o.at ≡ None) (outside_joints plan)
    (all_weaker (λ (j : Joint). AllByRecursion (λ (s : Spot). Differ s j.1) (joint_ends (cable_joints plan)))
    (λ (j : Joint). far_end (wiring plan) (switch_port j.1) ≡ None) (λ j k. none_ends (cable_joints plan) j.1 k)
    (outside_joints plan) (cables_open plan h f))) e)
