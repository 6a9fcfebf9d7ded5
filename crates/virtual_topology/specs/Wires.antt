-- How the ports of a plan are joined, by numbers.
use Rattle.std.specs.Prelude.{ℕ, Bool, false, ◌==◌, ◌&&◌, not, is_none, Option, Some, None, List, [], ◌∷◌, map}
use Rattle.std.specs.Prelude.{filter_map, flat_map, option_map, slice_get}
use Rattle.std.specs.List.{enumerate_from, list_any}
use Rattle.std.specs.Map.{lookup}
use Rattle.std.specs.Option.{option_and_then, option_map_or}
use Rattle.virtual_topology.specs.declared.plan.PairItem.{PairItem}
use Rattle.virtual_topology.specs.declared.plan.TopologyPlan.{TopologyPlan}
use Rattle.virtual_topology.specs.declared.plan.VirtualItem.{VirtualItem}
use Rattle.virtual_topology.specs.declared.plan.VirtualPort.{VirtualPort}
use Rattle.virtual_topology.specs.declared.uses.Role.{Role}
use Rattle.virtual_topology.specs.declared.uses.Role.TheVariants.{Physical, Link}
use Rattle.virtual_topology.specs.Rows.{Spot, Row, same_spot, rows, where_is}

-- two spots that are joined
abbrev pub Joint : Type 0
Joint = Spot × Spot

-- an outside port, and the physical port that it is
abbrev pub outside_row : List Row → ℕ → VirtualPort → Option Joint
outside_row rs v q = option_map (λ s. ((v, q.port), s)) (option_and_then (where_is rs Physical) q.at)

-- those of a virtual switch
abbrev pub item_joints : List Row → ℕ × VirtualItem → List Joint
item_joints rs (v, x) = filter_map (outside_row rs v) x.ports

abbrev pub outside_among : List Row → List VirtualItem → List Joint
outside_among rs virtuals = flat_map (item_joints rs) (enumerate_from 0 virtuals)

-- the outside ports of a plan, in the order of the file
abbrev pub outside_joints : TopologyPlan → List Joint
outside_joints plan = outside_among (rows plan) plan.virtuals

-- the ends of a pair, by numbers
abbrev pub both : Option Spot → Option Spot → Option Joint
both (Some a) (Some b) = Some (a, b)
both (Some a) None = None
both None b = None

abbrev pub pair_joint : List Row → Role → PairItem → Option Joint
pair_joint rs role pair = both (where_is rs role pair.a) (where_is rs role pair.b)

abbrev pub joints_among : List Row → Role → List PairItem → List Joint
joints_among rs role pairs = filter_map (pair_joint rs role) pairs

-- the cables and the links
abbrev pub cable_joints : TopologyPlan → List Joint
cable_joints plan = joints_among (rows plan) Physical plan.cables

abbrev pub link_joints : TopologyPlan → List Joint
link_joints plan = joints_among (rows plan) Link plan.links

-- from each end to the other
abbrev pub both_ways : List Joint → List Joint
both_ways joints = flat_map (λ (j : Joint). j ∷ (j.1, j.0) ∷ []) joints

abbrev pub turned : List Joint → List Joint
turned joints = map (λ (j : Joint). (j.1, j.0)) joints

-- where a link leads from a port of a virtual switch
abbrev pub peer_of : TopologyPlan → ℕ → ℕ → Option Spot
peer_of plan v port = lookup (same_spot (v, port)) (both_ways (link_joints plan))

-- where a cable leads from a physical port
abbrev pub far_end_of : TopologyPlan → ℕ → ℕ → Option Spot
far_end_of plan switch port = lookup (same_spot (switch, port)) (both_ways (cable_joints plan))

-- the physical port that an outside port is
abbrev pub outside_of : TopologyPlan → ℕ → ℕ → Option Spot
outside_of plan v port = lookup (same_spot (v, port)) (outside_joints plan)

-- the outside port that a physical port is
abbrev pub entering_of : TopologyPlan → ℕ → ℕ → Option Spot
entering_of plan switch port = lookup (same_spot (switch, port)) (turned (outside_joints plan))

-- the outside port lies on another switch than this one
abbrev pub lies_off : ℕ → Joint → Bool
lies_off switch j = not (j.1.0 == switch)

-- outside ports lie on two or more physical switches
abbrev pub lie_apart : List Joint → Bool
lie_apart [] = false
lie_apart (j ∷ js) = list_any (lies_off j.1.0) (j ∷ js)

-- a virtual switch is spread over several physical ones
abbrev pub is_spread_of : TopologyPlan → ℕ → Bool
is_spread_of plan v = option_map_or (λ x. lie_apart (item_joints (rows plan) (v, x))) (slice_get plan.virtuals v) false

-- the port is a link port
abbrev pub is_link : VirtualPort → Bool
is_link q = is_none q.at

-- a joint has an end on the switch
abbrev pub touches : ℕ → Joint → Bool
touches switch j = (j.0.0 == switch)

-- another virtual switch has an outside port on this physical switch
abbrev pub is_shared : ℕ → ℕ → Joint → Bool
is_shared v switch j = (j.1.0 == switch) && not (j.0.0 == v)

-- nothing else has to do with the physical switch of these outside ports of a virtual switch
abbrev pub is_lone_with : List Joint → List Joint → ℕ → VirtualItem → List Joint → Bool
is_lone_with cables outside v x [] = false
is_lone_with cables outside v x (j ∷ js) =
    not (lie_apart (j ∷ js)) &&
    (not (list_any is_link x.ports) &&
    (not (list_any (touches j.1.0) (both_ways cables)) && not (list_any (is_shared v j.1.0) outside)))

-- a virtual switch is alone on its one physical switch: it has an outside port, isn't spread, has no link port, no
-- cable
-- ends there, and no other virtual switch has an outside port there
abbrev pub is_lone_of : TopologyPlan → ℕ → Bool
is_lone_of plan v =
    option_map_or (λ x. is_lone_with (cable_joints plan) (outside_joints plan) v x (item_joints (rows plan) (v, x)))
    (slice_get plan.virtuals v) false
