-- The virtual switches of links and outside ports are there.
use Rattle.std.proofs.Common.{◌≡◌, ℕ, zero, suc, get_or, ◌+◌, ◌<◌, ◌≤◌, Bool, true, false, ◌&&◌, cond, Option, Some}
use Rattle.std.proofs.Common.{None, List, [], ◌∷◌, ◌++◌, length, refl, sym, subst, true≢false, arith}
use Rattle.std.specs.Prelude.{filter_map, flat_map, map, option_map}
use Rattle.std.specs.List.{enumerate_from, AllByRecursion, cons_option}
use Rattle.std.specs.Option.{option_and_then}
use Rattle.virtual_topology.specs.declared.plan.PairItem.{PairItem}
use Rattle.virtual_topology.specs.declared.plan.PortPlace.{PortPlace}
use Rattle.virtual_topology.specs.declared.plan.TopologyPlan.{TopologyPlan}
use Rattle.virtual_topology.specs.declared.plan.VirtualPort.{VirtualPort}
use Rattle.virtual_topology.specs.declared.uses.Role.{Role}
use Rattle.virtual_topology.specs.declared.uses.Role.TheVariants.{Physical, Link}
use Rattle.virtual_topology.specs.Places.{at_port, in_role, same_place, same_role}
use Rattle.virtual_topology.specs.Rows.{Row, Spot, all_switch_rows, all_virtual_rows, link_row, port_rows, rows}
use Rattle.virtual_topology.specs.Rows.{switch_rows, virtual_rows, where_is}
use Rattle.virtual_topology.specs.Within.{AreWithin, HaveSwitches, LiesWithin}
use Rattle.virtual_topology.specs.Wires.{Joint, both, both_ways, cable_joints, item_joints, joints_among, link_joints}
use Rattle.virtual_topology.specs.Wires.{outside_joints, outside_row, pair_joint}

All-from_recursion : {X : Type 0} (P : X → Type 0) (xs : List X) → AllByRecursion P xs → (k : ℕ) (d : X) → k < length xs
    → P (get_or xs k d)
All-from_recursion P [] a k d lt = absurd (omega (arith, lt))
All-from_recursion P (x ∷ xs) a zero d lt = a.0
All-from_recursion P (x ∷ xs) a (suc k) d lt = All-from_recursion P xs a.1 k d (omega (arith, lt))

-- if the row is in a role, its switch is below a number
abbrev InRange : Role → ℕ → Row → Type 0
InRange role n r = same_role role r.0.role ≡ true → r.1.0 < n

each_append : {X : Type 0} (P : X → Type 0) (xs ys : List X) → AllByRecursion P xs → AllByRecursion P ys
    → AllByRecursion P (xs ++ ys)
each_append P [] ys a b = b
each_append P (x ∷ xs) ys a b = (a.0, each_append P xs ys a.1 b)

each_flat_map : {X Y : Type 0} (P : Y → Type 0) (f : X → List Y) → ((x : X) → AllByRecursion P (f x)) → (xs : List X)
    → AllByRecursion P (flat_map f xs)
each_flat_map P f h [] = tt
each_flat_map P f h (x ∷ xs) = each_append P (f x) (flat_map f xs) (h x) (each_flat_map P f h xs)

-- each item with a number below the bound
each_numbered : {X Y : Type 0} (P : Y → Type 0) (f : ℕ × X → List Y) (n : ℕ)
    → ((v : ℕ) (x : X) → v < n → AllByRecursion P (f (v, x)))
    → (m : ℕ) (xs : List X) → m + length xs ≤ n → AllByRecursion P (flat_map f (enumerate_from m xs))
each_numbered P f n h m [] le = tt
each_numbered P f n h m (x ∷ xs) le =
    each_append P (f (m, x)) (flat_map f (enumerate_from (m + 1) xs)) (h m x (omega arith))
    (each_numbered P f n h (m + 1) xs (omega arith))

-- the rows of physical switches and of link ports
physical_in : (n i : ℕ) → i < n → (name ports : List ℕ)
    → AllByRecursion (InRange Physical n) (map (λ (p : ℕ). (in_role Physical (at_port name p), (i, p))) ports)
physical_in n i lt name [] = tt
physical_in n i lt name (p ∷ ps) = ((λ e. lt), physical_in n i lt name ps)

no_links : (n i : ℕ) (name ports : List ℕ)
    → AllByRecursion (InRange Link n) (map (λ (p : ℕ). (in_role Physical (at_port name p), (i, p))) ports)
no_links n i name [] = tt
no_links n i name (p ∷ ps) = ((λ e. absurd (true≢false (sym e))), no_links n i name ps)

link_in : (n v : ℕ) → v < n → (name : List ℕ) (q : VirtualPort) → AllByRecursion (InRange Link n) (port_rows v name q)
link_in n v lt name q = ((λ e. absurd (true≢false (sym e))), by q.at)
  where
    by : (at : Option PortPlace) → AllByRecursion (InRange Link n) (link_row at (at_port name q.port) (v, q.port))
    by None = ((λ e. lt), tt)
    by (Some p) = tt

no_physical : (n v : ℕ) (name : List ℕ) (q : VirtualPort) → AllByRecursion (InRange Physical n) (port_rows v name q)
no_physical n v name q = ((λ e. absurd (true≢false (sym e))), by q.at)
  where
    by : (at : Option PortPlace) → AllByRecursion (InRange Physical n) (link_row at (at_port name q.port) (v, q.port))
    by None = ((λ e. absurd (true≢false (sym e))), tt)
    by (Some p) = tt

link_rows_in : (plan : TopologyPlan) → AllByRecursion (InRange Link (length plan.virtuals)) (rows plan)
link_rows_in plan =
    each_append (InRange Link (length plan.virtuals)) (all_switch_rows plan.switches) (all_virtual_rows plan.virtuals)
    (each_flat_map (InRange Link (length plan.virtuals)) switch_rows
    (λ x. no_links (length plan.virtuals) x.0 x.1.name x.1.ports) (enumerate_from 0 plan.switches))
    (each_numbered (InRange Link (length plan.virtuals)) virtual_rows (length plan.virtuals)
    (λ v x lt. each_flat_map (InRange Link (length plan.virtuals)) (port_rows v x.name)
    (link_in (length plan.virtuals) v lt x.name) x.ports) 0 plan.virtuals (omega arith))

physical_rows_in : (plan : TopologyPlan) → AllByRecursion (InRange Physical (length plan.switches)) (rows plan)
physical_rows_in plan =
    each_append (InRange Physical (length plan.switches)) (all_switch_rows plan.switches)
    (all_virtual_rows plan.virtuals)
    (each_numbered (InRange Physical (length plan.switches)) switch_rows (length plan.switches)
    (λ i s lt. physical_in (length plan.switches) i lt s.name s.ports) 0 plan.switches (omega arith))
    (each_flat_map (InRange Physical (length plan.switches)) virtual_rows
    (λ x. each_flat_map (InRange Physical (length plan.switches)) (port_rows x.0 x.1.name)
    (no_physical (length plan.switches) x.0 x.1.name) x.1.ports) (enumerate_from 0 plan.virtuals))

-- a port that is found
found_in : (role : Role) (n : ℕ) (p : PortPlace) (rs : List Row) (s : Spot) → AllByRecursion (InRange role n) rs
    → where_is rs role p ≡ Some s → s.0 < n
found_in role n p [] s a e = absurd (cc)
found_in role n p (r ∷ rs) s a e = by (same_role role r.0.role) (same_place p r.0.place) refl e
    (found_in role n p rs s a.1)
  where
    by : (b c : Bool) → same_role role r.0.role ≡ b → cond (b && c) (Some r.1) (where_is rs role p) ≡ Some s
        → (where_is rs role p ≡ Some s → s.0 < n) → s.0 < n
    by true true same e rest = let there : r.1 ≡ s = cc in subst (λ (t : Spot). t.0 < n) there (a.0 same)
    by true false same e rest = rest e
    by false c same e rest = rest e

each_filter_map : {X Y : Type 0} (P : Y → Type 0) (f : X → Option Y) → ((x : X) (y : Y) → f x ≡ Some y → P y)
    → (xs : List X) → AllByRecursion P (filter_map f xs)
each_filter_map P f h [] = tt
each_filter_map {X} {Y} P f h (x ∷ xs) = by (f x) refl (each_filter_map P f h xs)
  where
    by : (o : Option Y) → f x ≡ o → AllByRecursion P (filter_map f xs)
        → AllByRecursion P (cons_option o (filter_map f xs))
    by None e rest = rest
    by (Some y) e rest = (h x y e, rest)

both_in : (n : ℕ) (a b : Option Spot) → ((s : Spot) → a ≡ Some s → s.0 < n) → ((s : Spot) → b ≡ Some s → s.0 < n)
    → (j : Joint) → both a b ≡ Some j → LiesWithin n j
both_in n (Some a) (Some b) p q j e = let same : (a, b) ≡ j = cc in subst (LiesWithin n) same (p a refl, q b refl)
both_in n (Some a) None p q j e = absurd (cc)
both_in n None b p q j e = absurd (cc)

outside_in : (n v : ℕ) → v < n → (rs : List Row) (q : VirtualPort) (j : Joint) → outside_row rs v q ≡ Some j → j.0.0 < n
outside_in n v lt rs q j e = by (option_and_then (where_is rs Physical) q.at) e
  where
    by : (o : Option Spot) → option_map (λ (s : Spot). ((v, q.port), s)) o ≡ Some j → j.0.0 < n
    by None e = absurd (cc)
    by (Some s) e = let same : ((v, q.port), s) ≡ j = cc in subst (λ (j : Joint). j.0.0 < n) same lt

joints_within : (role : Role) (n : ℕ) (rs : List Row) → AllByRecursion (InRange role n) rs → (pairs : List PairItem)
    → AllByRecursion (LiesWithin n) (joints_among rs role pairs)
joints_within role n rs a pairs =
    each_filter_map (LiesWithin n) (pair_joint rs role)
    (λ pair j e. both_in n (where_is rs role pair.a) (where_is rs role pair.b) (λ s. found_in role n pair.a rs s a)
    (λ s. found_in role n pair.b rs s a) j e) pairs

pub links_within : (plan : TopologyPlan) → AreWithin (length plan.virtuals) (link_joints plan)
links_within plan = All-from_recursion (LiesWithin (length plan.virtuals)) (link_joints plan)
    (joints_within Link (length plan.virtuals) (rows plan) (link_rows_in plan) plan.links)

both_ways_within : (n : ℕ) (js : List Joint) → AllByRecursion (LiesWithin n) js
    → AllByRecursion (LiesWithin n) (both_ways js)
both_ways_within n [] a = tt
both_ways_within n (j ∷ js) a = (a.0, ((a.0.1, a.0.0), both_ways_within n js a.1))

pub ways_within : (plan : TopologyPlan) → AreWithin (length plan.switches) (both_ways (cable_joints plan))
ways_within plan =
    All-from_recursion (LiesWithin (length plan.switches)) (both_ways (cable_joints plan))
    (both_ways_within (length plan.switches) (cable_joints plan)
    (joints_within Physical (length plan.switches) (rows plan) (physical_rows_in plan) plan.cables))

pub outside_within : (plan : TopologyPlan) → HaveSwitches (length plan.virtuals) (outside_joints plan)
outside_within plan =
    All-from_recursion (λ (j : Joint). j.0.0 < length plan.virtuals) (outside_joints plan)
    (each_numbered (λ (j : Joint). j.0.0 < length plan.virtuals) (item_joints (rows plan)) (length plan.virtuals)
    (λ v x lt. each_filter_map (λ (j : Joint). j.0.0 < length plan.virtuals) (outside_row (rows plan) v)
    (outside_in (length plan.virtuals) v lt (rows plan)) x.ports)
    0 plan.virtuals (omega arith))
