-- The wiring of a topology, with its paths: where outside ports lie and their tags, the cables, and the next hops.
use Rattle.std.specs.Prelude.{ℕ, Option, List, map, filter_map, flat_map, length, option_map}
use Rattle.std.specs.List.{range_with_len}
use Rattle.virtual_topology.specs.declared.plan.TopologyPlan.{TopologyPlan}
use Rattle.virtual_topology.specs.Rows.{Spot}
use Rattle.virtual_topology.specs.Wires.{Joint, cable_joints, outside_joints}
use Rattle.inner_paths.specs.Hops.{next_hop_of}
use Rattle.inner_paths.specs.Tags.{tag_of}
use Rattle.switch_meaning.specs.declared.wiring.Cable.{Cable}
use Rattle.switch_meaning.specs.declared.wiring.NextHop.{NextHop}
use Rattle.switch_meaning.specs.declared.wiring.Outside.{Outside}
use Rattle.switch_meaning.specs.declared.wiring.SwitchPort.{SwitchPort}
use Rattle.switch_meaning.specs.declared.wiring.Wiring.{Wiring}

-- a port of a switch, by both numbers
abbrev pub port_at : Spot → SwitchPort
port_at s = record { switch = s.0; port = s.1 }

-- an outside port of a virtual switch that is this physical port
abbrev pub outside_at_spot : TopologyPlan → ℕ → ℕ → Spot → Outside
outside_at_spot plan v port s = record { v = v; port = port; at = port_at s; tag = tag_of plan v port }

abbrev pub outside_from : TopologyPlan → Joint → Outside
outside_from plan j = outside_at_spot plan j.0.0 j.0.1 j.1

-- a cable between two ports
abbrev pub cable_from : Joint → Cable
cable_from j = record { one = port_at j.0; other = port_at j.1 }

-- the next hop from one switch to another, if there is one
abbrev pub hop_from : TopologyPlan → ℕ → ℕ → Option NextHop
hop_from plan from to = option_map (λ port. record { from = from; to = to; port = port }) (next_hop_of plan from to)

-- those from one switch to all
abbrev pub hops_from : TopologyPlan → ℕ → List NextHop
hops_from plan from = filter_map (hop_from plan from) (range_with_len 0 (length plan.switches))

abbrev pub wiring_of : TopologyPlan → Wiring
wiring_of plan = record {
  outside = map (outside_from plan) (outside_joints plan);
  cables = map cable_from (cable_joints plan);
  next_hops = flat_map (hops_from plan) (range_with_len 0 (length plan.switches));
}
