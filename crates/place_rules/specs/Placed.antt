-- The entries of rules, and those that stand whatever the tables of members have.
use Rattle.std.specs.Prelude.{ℕ, Bool, false, ◌==◌, ◌&&◌, Option, Some, if◌then◌else◌, List, [], ◌++◌, option_map}
use Rattle.std.specs.Prelude.{slice_get, slice_index_or}
use Rattle.std.specs.List.{list_any}
use Rattle.std.specs.Option.{option_and_then, option_map_or}
use Rattle.virtual_topology.specs.declared.plan.SwitchItem.{SwitchItem}
use Rattle.virtual_topology.specs.declared.plan.TopologyPlan.{TopologyPlan}
use Rattle.virtual_topology.specs.declared.plan.VirtualItem.{VirtualItem}
use Rattle.virtual_topology.specs.declared.plan.VirtualPort.{VirtualPort}
use Rattle.virtual_topology.specs.Rows.{Spot}
use Rattle.virtual_topology.specs.Wires.{Joint, is_spread_of, outside_joints, outside_of}
use Rattle.policy_meaning.specs.declared.rule.Rule.{Rule}
use Rattle.switch_meaning.specs.Fixed.{drops, fixed_entries}
use Rattle.switch_meaning.specs.Placing.{entry_of}
use Rattle.switch_meaning.specs.declared.entry.PhysEntry.{PhysEntry}
use Rattle.switch_meaning.specs.declared.entry.Site.{Site}
use Rattle.agreement.specs.Entries.{flat}
use Rattle.place_rules.specs.Joined.{wiring_of}

-- the first port of a virtual switch
abbrev pub first_port : TopologyPlan → ℕ → Option ℕ
first_port plan v =
    option_and_then (λ (x : VirtualItem). option_map (λ (q : VirtualPort). q.port) (slice_get x.ports 0))
    (slice_get plan.virtuals v)

-- the port itself; 0 stands for all ports of a virtual switch whose ports lie on one switch, and so for the first
abbrev pub port_meant : TopologyPlan → ℕ → ℕ → Option ℕ
port_meant plan v port = if port == 0 then first_port plan v else Some port

-- the physical switch on which the rules of a port are put
abbrev pub home_of : TopologyPlan → ℕ → ℕ → Option ℕ
home_of plan v port = option_and_then (λ p. option_map (λ (s : Spot). s.0) (outside_of plan v p))
    (port_meant plan v port)

-- a virtual switch at that one; the rules of port 0 are for all ports
abbrev pub site_of : TopologyPlan → ℕ → ℕ → ℕ → Site
site_of plan v port switch = record { v = v; switch = switch; spread = is_spread_of plan v; whole = port == 0 }

-- the entry of a rule of a port, or none where no header is left, or there is no such port
abbrev pub placed_of : TopologyPlan → ℕ → ℕ → Rule → Option PhysEntry
placed_of plan v port r = option_and_then (λ switch. entry_of (wiring_of plan) (site_of plan v port switch) (flat r))
    (home_of plan v port)

-- an outside port of a virtual switch that is one of these lies on this switch
abbrev pub is_whole_at : List Bool → ℕ → Joint → Bool
is_whole_at whole switch o = slice_index_or whole o.0.0 false && (o.1.0 == switch)

-- the switch is all of a virtual switch
abbrev pub is_whole_of : TopologyPlan → List Bool → ℕ → Bool
is_whole_of plan whole switch = list_any (is_whole_at whole switch) (outside_joints plan)

-- the ports of a switch
abbrev pub ports_of : TopologyPlan → ℕ → List ℕ
ports_of plan switch = option_map_or (λ (x : SwitchItem). x.ports) (slice_get plan.switches switch) []

-- guards, transit entries, and, where the switch is all of a virtual switch, drop entries for its other ports
abbrev pub fixed_of : TopologyPlan → List Bool → ℕ → List PhysEntry
fixed_of plan whole switch = fixed_entries (wiring_of plan) switch
    ++ (if is_whole_of plan whole switch then drops (wiring_of plan) switch (ports_of plan switch) else [])
