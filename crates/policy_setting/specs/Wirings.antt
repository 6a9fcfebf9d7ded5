-- The wiring of a topology.
use Rattle.std.specs.Prelude.{ℕ, Option, List, [], ◌∷◌, map, flat_map, filter_map, option_map, length}
use Rattle.std.specs.List.{range_with_len}
use Rattle.switch_meaning.specs.declared.wiring.Cable.{Cable}
use Rattle.switch_meaning.specs.declared.wiring.NextHop.{NextHop}
use Rattle.switch_meaning.specs.declared.wiring.Outside.{Outside}
use Rattle.switch_meaning.specs.declared.wiring.SwitchPort.{SwitchPort}
use Rattle.switch_meaning.specs.declared.wiring.Wiring.{Wiring}
use Rattle.virtual_topology.specs.declared.plan.TopologyPlan.{TopologyPlan}
use Rattle.virtual_topology.specs.Rows.{Spot}
use Rattle.virtual_topology.specs.Wires.{Joint, outside_joints, cable_joints}
use Rattle.inner_paths.specs.Hops.{next_hop_of}
use Rattle.inner_paths.specs.Tags.{tag_of}

-- a port of a switch by numbers
abbrev pub switch_port : Spot → SwitchPort
switch_port s = record { switch = s.0; port = s.1 }

-- an outside port, the physical port that it is, and its tag
abbrev pub outside : TopologyPlan → Joint → Outside
outside plan j = record { v = j.0.0; port = j.0.1; at = switch_port j.1; tag = tag_of plan j.0.0 j.0.1 }

abbrev pub cable : Joint → Cable
cable j = record { one = switch_port j.0; other = switch_port j.1 }

-- the next hop from a switch to another, if there is one
abbrev pub hop : TopologyPlan → ℕ → ℕ → Option NextHop
hop plan from to = option_map (λ port. record { from = from; to = to; port = port }) (next_hop_of plan from to)

-- the next hops between the first so many switches
abbrev pub hops_among : TopologyPlan → ℕ → List NextHop
hops_among plan count = flat_map (λ from. filter_map (hop plan from) (range_with_len 0 count)) (range_with_len 0 count)

-- those between all switches
abbrev pub hops : TopologyPlan → List NextHop
hops plan = hops_among plan (length plan.switches)

-- each second item, from the first on
abbrev pub every_second : {A : Type 0} → List A → List A
every_second (x ∷ y ∷ rest) = x ∷ every_second rest
every_second _ = []

-- the outside ports in the order of the file, each cable once, and the next hops
abbrev pub wiring : TopologyPlan → Wiring
wiring plan = record {
  outside = map (outside plan) (outside_joints plan);
  cables = map cable (cable_joints plan);
  next_hops = hops plan;
}
