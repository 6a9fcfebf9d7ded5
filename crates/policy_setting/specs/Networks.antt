-- The virtual switches of a topology, as members' expressions and links join them.
use Rattle.std.specs.Prelude.{ℕ, Bool, ◌==◌, ◌&&◌, Option, List, map, filter, filter_map, option_map}
use Rattle.std.specs.List.{enumerate_from, list_all}
use Rattle.policy_expr.specs.Policy.{Policy}
use Rattle.policy_meaning.specs.Switches.{SwitchOf}
use Rattle.policy_meaning.specs.declared.network.Link.{Link}
use Rattle.policy_meaning.specs.declared.network.Place.{Place}
use Rattle.virtual_topology.specs.declared.plan.TopologyPlan.{TopologyPlan}
use Rattle.virtual_topology.specs.declared.plan.VirtualItem.{VirtualItem}
use Rattle.virtual_topology.specs.declared.plan.VirtualPort.{VirtualPort}
use Rattle.virtual_topology.specs.Rows.{Spot}
use Rattle.virtual_topology.specs.Wires.{Joint, outside_joints, peer_of, is_spread_of, is_lone_of}

-- an outside port of this virtual switch
abbrev pub is_of : ℕ → Joint → Bool
is_of v j = j.0.0 == v

-- the outside ports of a virtual switch
abbrev pub outside_ports : TopologyPlan → ℕ → List ℕ
outside_ports plan v = map (λ (j : Joint). j.0.1) (filter (is_of v) (outside_joints plan))

abbrev pub place : Spot → Place
place s = record { v = s.0; port = s.1 }

-- a port's link, if one leads from it
abbrev pub link : TopologyPlan → ℕ → VirtualPort → Option Link
link plan v q = option_map (λ s. record { port = q.port; peer = place s }) (peer_of plan v q.port)

-- a virtual switch; it is whole where it is alone on its physical switch and its members see all its ports
abbrev pub virtual_switch : TopologyPlan → Policy → Bool → ℕ × VirtualItem → SwitchOf
virtual_switch plan expr seen v = record {
  expr = expr;
  outside = outside_ports plan v.0;
  links = filter_map (link plan v.0) v.1.ports;
  spread = is_spread_of plan v.0;
  whole = is_lone_of plan v.0 && seen;
}
