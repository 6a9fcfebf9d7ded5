-- The steps of changes, computed: at `+` of a monitor beside a router, over the ports of their virtual switch, and of
-- both together.
use Rattle.std.specs.Prelude.{◌≡◌, ℕ, zero, suc, ◌≤◌, Bool, false, true, List, [], ◌∷◌, map}
use Rattle.agreement.specs.Worked.{routed}
use Rattle.agreement.specs.declared.state.Setting.{Setting}
use Rattle.composed_tables.specs.Steps.{building_steps, setting_steps}
use Rattle.policy_expr.specs.Policy.{Policy, member, parallel}
use Rattle.policy_meaning.specs.Hops.{Fabric}
use Rattle.policy_meaning.specs.LeafRules.{leaf_rules}
use Rattle.policy_meaning.specs.Rules.{rules_of}
use Rattle.policy_meaning.specs.WorkedRules.{four_ports}
use Rattle.policy_meaning.specs.WorkedTables.{does, entry, from_net, table, to_net, to_port}
use Rattle.policy_meaning.specs.declared.leaf.LeafEntry.{LeafEntry}
use Rattle.policy_meaning.specs.declared.network.Place.{Place}
use Rattle.policy_meaning.specs.declared.rule.Rule.{Rule}
use Rattle.of10_actions.specs.declared.effects.Tail.TheVariants.{Nothing}
use Rattle.incr_compile.specs.Costs.{steps_of}
use Rattle.hop_rules.specs.Counts.{change_steps}
use Rattle.worked_changes.specs.WorkedRouted.{routed_plan}

-- a member of eight levels each
abbrev pub eight : ℕ → ℕ
eight i = 8

abbrev pub beside : Policy
beside = parallel (member 0) (member 1)

-- the rules of the monitor with these entries, and of the router with those, beside their misses
abbrev pub rules_with : List LeafEntry → List LeafEntry → ℕ → List Rule
rules_with monitor router zero = leaf_rules four_ports (table 0 false monitor)
rules_with monitor router (suc i) = leaf_rules four_ports (table 1 true router)

-- the steps at `+` where the monitor's entries change
abbrev pub steps_beside : List LeafEntry → List LeafEntry → List LeafEntry → ℕ
steps_beside before after router = steps_of eight (rules_with before router) (rules_with after router) beside

-- the monitor looks at packets from a net
abbrev pub looks : ℕ → List LeafEntry
looks addr = entry 1 (from_net addr 24) 4 (does [] Nothing) ∷ []

-- the router sends to 10.0.2.0/24
abbrev pub sends : List LeafEntry
sends = entry 1 (to_net 0x0a000200 24) 4 (does (to_port 2) Nothing) ∷ []

-- the router has an entry for each of three nets from which packets come
abbrev pub three_nets : List LeafEntry
three_nets =
    entry 1 (from_net 0x0a000100 24) 4 (does (to_port 2) Nothing)
    ∷ entry 2 (from_net 0x0a000200 24) 4 (does (to_port 2) Nothing)
    ∷ entry 3 (from_net 0x0a000300 24) 4 (does (to_port 2) Nothing)
    ∷ []

-- One entry of the monitor comes: one step for it, one for the router's miss and one for the entry that could meet
-- it. When it goes no step is made.
pub record StepsOfOneEntry : Type 0 where
  pub comes : steps_beside [] (looks 0x0a000100) sends ≡ 3
  pub goes : steps_beside (looks 0x0a000100) [] sends ≡ 0
  -- of the router's three nets one could meet it
  pub meets_one : steps_beside [] (looks 0x0a000200) three_nets ≡ 3

-- the four outside ports of a virtual switch
abbrev pub own_ports : List Place
own_ports = map (λ p. record { v = 0; port = p }) four_ports

-- the virtual switch of both, which has no links
abbrev pub lone_switch : List LeafEntry → List LeafEntry → Fabric
lone_switch monitor router = record {
  rules = λ v. rules_of eight (rules_with monitor router) beside;
  sizes = λ v. 15;
  links = λ v. [];
}

-- the steps at its ports, through at most four hops
abbrev pub steps_at_ports : List LeafEntry → List LeafEntry → List LeafEntry → ℕ
steps_at_ports before after router = change_steps (lone_switch before router) (lone_switch after router) [] own_ports 4

-- Two rules come, so two steps are made at each of four ports. None are made where the entry goes.
pub record StepsOverHops : Type 0 where
  pub comes : steps_at_ports [] (looks 0x0a000100) sends ≡ 8
  pub goes : steps_at_ports (looks 0x0a000100) [] sends ≡ 0
  pub meets_one : steps_at_ports [] (looks 0x0a000200) three_nets ≡ 8

-- the setting of both, of which one entry stands for all ports, or not
abbrev pub setting_with : Bool → List LeafEntry → List LeafEntry → Setting
setting_with whole monitor router = record (routed whole) {
  network = record {
    tables = table 0 false monitor ∷ table 1 true router ∷ [];
    switches = record { expr = beside; outside = four_ports; links = []; spread = false; whole = whole } ∷ [];
  };
}

-- the steps where the monitor's entries change
abbrev pub steps_of_setting : Bool → List LeafEntry → List LeafEntry → ℕ
steps_of_setting whole before after = setting_steps routed_plan (setting_with whole before sends)
    (setting_with whole after sends)

-- Where one entry stands for all ports, no step is made but at `+`; else fewer than the 35 of a node for each port and
-- each of four hops. None are made where the entry goes.
pub record StepsOfSettings : Type 0 where
  pub comes_to_whole : steps_of_setting true [] (looks 0x0a000100) ≡ 3
  pub goes_from_whole : steps_of_setting true (looks 0x0a000100) [] ≡ 0
  pub comes : steps_of_setting false [] (looks 0x0a000100) ≡ 11
  pub goes : steps_of_setting false (looks 0x0a000100) [] ≡ 0
  pub few : steps_of_setting false [] (looks 0x0a000100) ≤ 35

-- the steps where all is made from scratch, with the monitor's entry
abbrev pub steps_of_building : Bool → ℕ
steps_of_building whole = building_steps routed_plan (setting_with whole (looks 0x0a000100) sends)

-- Either member has two rules, each of which is a step, and each of their four pairs is one from either side. Where one
-- entry doesn't stand for all ports, the four rules that they make are a step each at each of four ports.
pub record StepsOfBuilding : Type 0 where
  pub for_whole : steps_of_building true ≡ 12
  pub for_ports : steps_of_building false ≡ 28
