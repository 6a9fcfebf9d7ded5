-- The VLAN numbers of outside ports.
use Rattle.std.specs.Prelude.{ℕ, suc, Bool, ◌==◌, ◌&&◌, ◌||◌, nat_lt, Option, Some, None, List, filter, filter_map}
use Rattle.std.specs.Prelude.{length, if◌then◌else◌, is_some}
use Rattle.virtual_topology.specs.declared.plan.TopologyPlan.{TopologyPlan}
use Rattle.virtual_topology.specs.Rows.{Spot}
use Rattle.virtual_topology.specs.Wires.{Joint, is_spread_of, outside_joints, outside_of}

-- an outside port of a spread virtual switch that stands before this port: by the order of the file, then by number
abbrev pub stands_before : TopologyPlan → ℕ → ℕ → Joint → Bool
stands_before plan v port o = is_spread_of plan o.0.0 && (nat_lt o.0.0 v || ((o.0.0 == v) && nat_lt o.0.1 port))

-- its place among the outside ports of all spread virtual switches, from 1
abbrev pub place_of : TopologyPlan → ℕ → ℕ → ℕ
place_of plan v port = suc (length (filter (stands_before plan v port) (outside_joints plan)))

-- the tag of an outside port of a spread virtual switch
abbrev pub tag_of : TopologyPlan → ℕ → ℕ → Option ℕ
tag_of plan v port = if is_spread_of plan v && is_some (outside_of plan v port) then Some (place_of plan v port)
    else None

-- an outside port with its tag, if it has one
abbrev pub tag_row : TopologyPlan → Joint → Option (Spot × ℕ)
tag_row plan o = if is_spread_of plan o.0.0 then Some (o.0, place_of plan o.0.0 o.0.1) else None

abbrev pub tag_rows : TopologyPlan → List (Spot × ℕ)
tag_rows plan = filter_map (tag_row plan) (outside_joints plan)
