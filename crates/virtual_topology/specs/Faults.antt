-- What is wrong with a plan: the first fault.
use Rattle.std.specs.Prelude.{◌≡◌, ℕ, Bool, true, false, ◌==◌, ◌&&◌, ◌||◌, ◌++◌, ◌⊎◌, not, is_none, nat_lt, nat_le}
use Rattle.std.specs.Prelude.{Option, Some, None, List, [], ◌∷◌, if◌then◌else◌, filter, length, option_map, slice_get}
use Rattle.std.specs.Prelude.{Result, Ok, Err}
use Rattle.std.specs.Fmt.{decimal}
use Rattle.std.specs.List.{enumerate_from, list_any}
use Rattle.std.specs.Option.{option_or}
use Rattle.virtual_topology.specs.declared.fault.TopologyFault.{TopologyFault}
use Rattle.virtual_topology.specs.declared.fault.TopologyFault.TheVariants.{PortTwice, Unknown, LinkShape, Mixed}
use Rattle.virtual_topology.specs.declared.fault.TopologyFault.TheVariants.{TooMany}
use Rattle.virtual_topology.specs.declared.plan.PairItem.{PairItem}
use Rattle.virtual_topology.specs.declared.plan.PortPlace.{PortPlace}
use Rattle.virtual_topology.specs.declared.plan.SwitchItem.{SwitchItem}
use Rattle.virtual_topology.specs.declared.plan.TopologyPlan.{TopologyPlan}
use Rattle.virtual_topology.specs.declared.plan.VirtualItem.{VirtualItem}
use Rattle.virtual_topology.specs.declared.uses.Role.{Role}
use Rattle.virtual_topology.specs.declared.uses.Role.TheVariants.{Physical, Virtual, Link}
use Rattle.virtual_topology.specs.Places.{PlaceUse, same_name, same_use, uses}
use Rattle.virtual_topology.specs.Rows.{Row, rows, where_is}
use Rattle.virtual_topology.specs.Wires.{Joint, link_joints, outside_joints, lie_apart}

-- a place as a policy file writes it: NAME:PORT
abbrev pub place_text : PortPlace → List ℕ
place_text p = p.name ++ (58 ∷ decimal p.port)

-- the first of a list that is one of those seen, or of those before it
abbrev pub first_again : {A : Type 0} → (A → A → Bool) → List A → List A → Option A
first_again same seen [] = None
first_again same seen (x ∷ xs) = if list_any (same x) seen then Some x else first_again same (seen ++ x ∷ []) xs

-- the first answer that there is
abbrev pub first_answer : {A B : Type 0} → (A → Option B) → List A → Option B
first_answer f [] = None
first_answer f (x ∷ xs) = option_or (f x) (first_answer f xs)

-- 1: the first place that is used again
abbrev pub twice_among : List PlaceUse → Option TopologyFault
twice_among us = option_map (λ u. PortTwice (place_text u.place)) (first_again same_use [] us)

-- a link's end is to be a port of a virtual switch
abbrev pub asked : Role → Role
asked Physical = Physical
asked Virtual = Virtual
asked Link = Virtual

-- the place isn't there
abbrev pub is_missing : List Row → PlaceUse → Bool
is_missing rs u = is_none (where_is rs (asked u.role) u.place)

abbrev pub unknown_place : List Row → PlaceUse → Option TopologyFault
unknown_place rs u = if is_missing rs u then Some (Unknown (place_text u.place)) else None

-- 2: the first place that isn't there
abbrev pub unknown_among : List Row → List PlaceUse → Option TopologyFault
unknown_among rs us = first_answer (unknown_place rs) us

-- both ends are on one switch
abbrev pub is_loop : PairItem → Bool
is_loop pair = same_name pair.a.name pair.b.name

-- a cable or link whose ends are on one switch
abbrev pub looped : PairItem → Option TopologyFault
looped pair = if is_loop pair then Some (LinkShape (place_text pair.a)) else None

-- the row is that of a link port
abbrev pub is_link_row : Role → Bool
is_link_row Physical = false
is_link_row Virtual = false
is_link_row Link = true

-- a link port without a link
abbrev pub unlinked : List PlaceUse → Row → Option TopologyFault
unlinked us r = if is_link_row r.0.role && not (list_any (same_use r.0) us) then Some (LinkShape (place_text r.0.place))
    else None

-- the end of a link is no link port
abbrev pub unlike_link : List Row → PortPlace → Option TopologyFault
unlike_link rs p = if is_none (where_is rs Link p) then Some (LinkShape (place_text p)) else None

-- an end that is no link port, or a link whose ends are on one switch
abbrev pub misshapen : List Row → PairItem → Option TopologyFault
misshapen rs l = option_or (unlike_link rs l.a) (option_or (unlike_link rs l.b) (looped l))

-- 3: the first cable, link port or link of such a shape
abbrev pub shape_among : List Row → List PlaceUse → TopologyPlan → Option TopologyFault
shape_among rs us plan = option_or (first_answer looped plan.cables)
    (option_or (first_answer (unlinked us) rs) (first_answer (misshapen rs) plan.links))

-- these links join two virtual switches, directly or through others: without the first of them, or over it, one way or
-- the other
abbrev pub are_joined : List Joint → ℕ → ℕ → Bool
are_joined [] v u = v == u
are_joined (l ∷ ls) v u =
    are_joined ls v u || ((are_joined ls v l.0.0 && are_joined ls l.1.0 u) ||
    (are_joined ls v l.1.0 && are_joined ls l.0.0 u))

-- a link ends at the virtual switch
abbrev pub ends_at : ℕ → Joint → Bool
ends_at v l = (l.0.0 == v) || (l.1.0 == v)

-- a virtual switch that has links, and that links join to outside ports on two physical switches
abbrev pub is_mixed : List Joint → List Joint → ℕ → Bool
is_mixed links outside v = list_any (ends_at v) links && lie_apart
    (filter (λ (o : Joint). are_joined links v o.0.0) outside)

abbrev pub mixed_item : List Joint → List Joint → ℕ × VirtualItem → Option TopologyFault
mixed_item links outside (v, x) = if is_mixed links outside v then Some (Mixed x.name) else None

-- 4: the first such
abbrev pub mixed_among : List Joint → List Joint → List VirtualItem → Option TopologyFault
mixed_among links outside virtuals = first_answer (mixed_item links outside) (enumerate_from 0 virtuals)

-- the 17th switch, or more than 64 ports
abbrev pub too_many : ℕ → List ℕ → ℕ → Option TopologyFault
too_many i name ports = if nat_le 16 i then Some (TooMany name 16)
    else (if nat_lt 64 ports then Some (TooMany name 64) else None)

abbrev pub too_many_at : ℕ × SwitchItem → Option TopologyFault
too_many_at (i, s) = too_many i s.name (length s.ports)

abbrev pub too_many_of : ℕ × VirtualItem → Option TopologyFault
too_many_of (v, x) = too_many v x.name (length x.ports)

-- the 65th cable or link
abbrev pub too_many_pairs : List PairItem → Option TopologyFault
too_many_pairs pairs = option_map (λ (pair : PairItem). TooMany (place_text pair.a) 64) (slice_get pairs 64)

-- 5: the first beyond a limit
abbrev pub crowded : TopologyPlan → Option TopologyFault
crowded plan =
    option_or (first_answer too_many_at (enumerate_from 0 plan.switches))
    (option_or (too_many_pairs plan.cables)
    (option_or (first_answer too_many_of (enumerate_from 0 plan.virtuals)) (too_many_pairs plan.links)))

-- the first of the faults 1 to 3
abbrev pub misplaced : TopologyPlan → Option TopologyFault
misplaced plan = option_or (twice_among (uses plan))
    (option_or (unknown_among (rows plan) (uses plan)) (shape_among (rows plan) (uses plan) plan))

-- the first fault of a plan: each is looked for in the whole file before the next
abbrev pub fault_of : TopologyPlan → Option TopologyFault
fault_of plan =
    option_or (twice_among (uses plan))
    (option_or (unknown_among (rows plan) (uses plan))
    (option_or (shape_among (rows plan) (uses plan) plan)
    (option_or (mixed_among (link_joints plan) (outside_joints plan) plan.virtuals) (crowded plan))))

-- a check answers the fault, and Ok exactly where there is none; want of memory aside
abbrev pub Answers : {A E : Type 0} → E → Result A E → Option E → Type 0
Answers memory (Ok x) wanted = wanted ≡ None
Answers memory (Err fault) wanted = (fault ≡ memory) ⊎ (wanted ≡ Some fault)
