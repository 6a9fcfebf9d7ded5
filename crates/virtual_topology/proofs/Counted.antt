-- A plan without fault keeps its limits.
use Rattle.std.proofs.Common.{◌≡◌, ℕ, suc, ◌+◌, ◌*◌, ◌++◌, length-append, ◌<◌, ◌≤◌, Bool, true, false, Option, Some}
use Rattle.std.proofs.Common.{None, List, [], ◌∷◌, length, refl, arith, if◌then◌else◌}
use Rattle.std.specs.Prelude.{nat_le, nat_lt, filter_map, flat_map}
use Rattle.std.specs.List.{cons_option, enumerate_from}
use Rattle.std.specs.Option.{option_or}
use Rattle.std.proofs.lemmas.Bool.Decides.{nat_tests}
use Rattle.virtual_topology.specs.declared.fault.TopologyFault.{TopologyFault}
use Rattle.virtual_topology.specs.declared.fault.TopologyFault.TheVariants.{TooMany}
use Rattle.virtual_topology.specs.declared.plan.TopologyPlan.{TopologyPlan}
use Rattle.virtual_topology.specs.declared.plan.VirtualItem.{VirtualItem}
use Rattle.virtual_topology.specs.Faults.{crowded, fault_of, first_answer, mixed_among, shape_among, too_many}
use Rattle.virtual_topology.specs.Faults.{too_many_at, too_many_of, too_many_pairs, twice_among, unknown_among}
use Rattle.virtual_topology.specs.Places.{uses}
use Rattle.virtual_topology.specs.Rows.{Row, rows}
use Rattle.virtual_topology.specs.Wires.{item_joints, link_joints, outside_row, outside_joints}

-- none of two answers
pub neither : {B : Type 0} (a b : Option B) → option_or a b ≡ None → (a ≡ None) × (b ≡ None)
neither None b e = (refl, e)
neither (Some x) b e = absurd (cc)

-- a number with no fault is below 16
in_limit : (i : ℕ) (name : List ℕ) (ports : ℕ) → too_many i name ports ≡ None → i < 16
in_limit i name ports e = by (nat_le 16 i) refl e
  where
    by : (b : Bool) → nat_le 16 i ≡ b
        → (if b then Some (TooMany name 16) else (if nat_lt 64 ports then Some (TooMany name 64) else None)) ≡ None
        → i < 16
    by true t e = absurd (cc)
    by false t e = grind (arith, nat_tests)

-- so many items have numbers below 16
pub counted : {X : Type 0} (f : ℕ × X → Option TopologyFault) → ((i : ℕ) (x : X) → f (i, x) ≡ None → i < 16)
    → (m : ℕ) (xs : List X) → m ≤ 16 → first_answer f (enumerate_from m xs) ≡ None → m + length xs ≤ 16
counted f h m [] le e = omega arith
counted f h m (x ∷ xs) le e =
    let here : m < 16 = h m x (neither (f (m, x)) (first_answer f (enumerate_from (m + 1) xs)) e).0 in
    let rest : (m + 1) + length xs ≤ 16 = counted f h (m + 1) xs (omega arith)
    (neither (f (m, x)) (first_answer f (enumerate_from (m + 1) xs)) e).1 in
    omega arith

not_crowded : (plan : TopologyPlan) → fault_of plan ≡ None → crowded plan ≡ None
not_crowded plan e =
    (neither (mixed_among (link_joints plan) (outside_joints plan) plan.virtuals) (crowded plan)
    (neither (shape_among (rows plan) (uses plan) plan) _
    (neither (unknown_among (rows plan) (uses plan)) _ (neither (twice_among (uses plan)) _ e).1).1).1).1

pub few_switches : (plan : TopologyPlan) → fault_of plan ≡ None → length plan.switches ≤ 16
few_switches plan e =
    let few : 0 + length plan.switches ≤ 16 =
    counted too_many_at (λ i s. in_limit i s.name (length s.ports)) 0 plan.switches (omega arith)
    (neither (first_answer too_many_at (enumerate_from 0 plan.switches)) _ (not_crowded plan e)).0 in
    omega arith

pub few_virtuals : (plan : TopologyPlan) → fault_of plan ≡ None → length plan.virtuals ≤ 16
few_virtuals plan e =
    let few : 0 + length plan.virtuals ≤ 16 =
    counted too_many_of (λ i x. in_limit i x.name (length x.ports)) 0 plan.virtuals (omega arith)
    (neither (first_answer too_many_of (enumerate_from 0 plan.virtuals)) _
    (neither (too_many_pairs plan.cables) _
    (neither (first_answer too_many_at (enumerate_from 0 plan.switches)) _ (not_crowded plan e)).1).1).0 in
    omega arith

-- and its ports are at most 64
ports_in_limit : (i : ℕ) (name : List ℕ) (ports : ℕ) → too_many i name ports ≡ None → ports ≤ 64
ports_in_limit i name ports e = by (nat_le 16 i) e
  where
    ports_by : (c : Bool) → nat_lt 64 ports ≡ c → (if c then Some (TooMany name 64) else None) ≡ None → ports ≤ 64
    ports_by true t e = absurd (cc)
    ports_by false t e = grind (arith, nat_tests)

    by : (b : Bool) → (if b then Some (TooMany name 16) else (if nat_lt 64 ports then Some (TooMany name 64) else None))
        ≡ None → ports ≤ 64
    by true e = absurd (cc)
    by false e = ports_by (nat_lt 64 ports) refl e

fewer : {X Y : Type 0} (f : X → Option Y) (xs : List X) → length (filter_map f xs) ≤ length xs
fewer f [] = omega arith
fewer {X} {Y} f (x ∷ xs) = by (f x) (fewer f xs)
  where
    by : (o : Option Y) → length (filter_map f xs) ≤ length xs
        → length (cons_option o (filter_map f xs)) ≤ suc (length xs)
    by None le = omega arith
    by (Some y) le = omega arith

outside_counted : (rs : List Row) (m : ℕ) (xs : List VirtualItem)
    → first_answer too_many_of (enumerate_from m xs) ≡ None
    → length (flat_map (item_joints rs) (enumerate_from m xs)) ≤ 64 * length xs
outside_counted rs m [] e = omega arith
outside_counted rs m (x ∷ xs) e =
    let both = neither (too_many m x.name (length x.ports)) (first_answer too_many_of (enumerate_from (m + 1) xs)) e in
    let here : length (item_joints rs (m, x)) ≤ length x.ports = fewer (outside_row rs m) x.ports in
    let ports : length x.ports ≤ 64 = ports_in_limit m x.name (length x.ports) both.0 in
    let rest : length (flat_map (item_joints rs) (enumerate_from (m + 1) xs)) ≤ 64 * length xs =
    outside_counted rs (m + 1) xs both.1 in
    let all : length (item_joints rs (m, x) ++ flat_map (item_joints rs) (enumerate_from (m + 1) xs))
    ≡ length (item_joints rs (m, x)) + length (flat_map (item_joints rs) (enumerate_from (m + 1) xs)) =
    length-append (item_joints rs (m, x)) (flat_map (item_joints rs) (enumerate_from (m + 1) xs)) in
    omega arith

pub few_outside : (plan : TopologyPlan) → fault_of plan ≡ None → length (outside_joints plan) ≤ 1024
few_outside plan e =
    let few : length plan.virtuals ≤ 16 = few_virtuals plan e in
    let counted : length (outside_joints plan) ≤ 64 * length plan.virtuals = outside_counted (rows plan) 0 plan.virtuals
    (neither (first_answer too_many_of (enumerate_from 0 plan.virtuals)) _
    (neither (too_many_pairs plan.cables) _
    (neither (first_answer too_many_at (enumerate_from 0 plan.switches)) _ (not_crowded plan e)).1).1).0 in
    omega arith
