-- What the machine reads of a policy's topology, its members' tables and its state.
use Rattle.std.specs.Prelude.{ℕ, Bool, true, false, List, map, slice_get}
use Rattle.std.specs.List.{enumerate_from}
use Rattle.std.specs.Option.{option_map_or}
use Rattle.agreement.specs.declared.state.PhysicalSwitch.{PhysicalSwitch}
use Rattle.agreement.specs.declared.state.Setting.{Setting}
use Rattle.policy_expr.specs.Policy.{Policy, member}
use Rattle.policy_meaning.specs.Switches.{SwitchOf}
use Rattle.policy_meaning.specs.declared.leaf.LeafTable.{LeafTable}
use Rattle.virtual_topology.specs.declared.plan.SwitchItem.{SwitchItem}
use Rattle.virtual_topology.specs.declared.plan.TopologyPlan.{TopologyPlan}
use Rattle.virtual_topology.specs.declared.plan.VirtualItem.{VirtualItem}
use Rattle.policy_setting.specs.Networks.{virtual_switch}
use Rattle.policy_setting.specs.Wirings.{wiring}

-- the expression of a virtual switch by number
abbrev pub expr_at : List Policy → ℕ → Policy
expr_at exprs v = option_map_or (λ (p : Policy). p) (slice_get exprs v) (member 0)

-- whether it is so by number, false of none
abbrev pub holds_at : List Bool → ℕ → Bool
holds_at bs i = option_map_or (λ (b : Bool). b) (slice_get bs i) false

-- a virtual switch by its number; `seen` says of which all members see all ports
abbrev pub numbered_switch : TopologyPlan → List Policy → List Bool → ℕ × VirtualItem → SwitchOf
numbered_switch plan exprs seen v = virtual_switch plan (expr_at exprs v.0) (holds_at seen v.0) v

-- the virtual switches, by number
abbrev pub switches : TopologyPlan → List Policy → List Bool → List SwitchOf
switches plan exprs seen = map (numbered_switch plan exprs seen) (enumerate_from 0 plan.virtuals)

-- a physical switch, and whether it is up
abbrev pub physical : List Bool → ℕ × SwitchItem → PhysicalSwitch
physical up i = record { ports = i.1.ports; up = holds_at up i.0 }

abbrev pub setting : TopologyPlan → List Policy → List Bool → List LeafTable → List Bool → ℕ → Setting
setting plan exprs seen tables up hops = record {
  network = record { tables = tables; switches = switches plan exprs seen };
  hops = hops;
  wiring = wiring plan;
  switches = map (physical up) (enumerate_from 0 plan.switches);
}
