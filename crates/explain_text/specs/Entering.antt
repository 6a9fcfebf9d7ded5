-- Where a packet comes in.
use Rattle.std.specs.Prelude.{ℕ, Bool, List, Option, nat_eq, option_map, position}
use Rattle.std.specs.Cmp.Lexicographic.{pointwise}
use Rattle.std.specs.Option.{option_and_then}
use Rattle.virtual_topology.specs.Rows.{Spot}
use Rattle.virtual_topology.specs.Wires.{entering_of}
use Rattle.virtual_topology.specs.declared.plan.SwitchItem.{SwitchItem}
use Rattle.virtual_topology.specs.declared.plan.TopologyPlan.{TopologyPlan}
use Rattle.explain_text.specs.declared.entrance.Entrance.{Entrance}

-- the switch has the name
abbrev pub is_named : List ℕ → SwitchItem → Bool
is_named name s = pointwise nat_eq s.name name

-- the number of the switch of a name
abbrev pub switch_at : TopologyPlan → List ℕ → Option ℕ
switch_at plan name = position (is_named name) plan.switches

-- a physical port that is an outside port of a virtual switch
abbrev pub entrance_at : ℕ → ℕ → Spot → Entrance
entrance_at switch port (v, by) = record { switch = switch; port = port; v = v; by = by }

abbrev pub entering : TopologyPlan → ℕ → ℕ → Option Entrance
entering plan port switch = option_map (entrance_at switch port) (entering_of plan switch port)

-- where a packet comes in by a port of the switch of a name; None where there is none, or it is no outside port
abbrev pub entrance_of : TopologyPlan → List ℕ → ℕ → Option Entrance
entrance_of plan name port = option_and_then (entering plan port) (switch_at plan name)
