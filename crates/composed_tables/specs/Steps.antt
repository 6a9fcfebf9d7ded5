-- The steps in which the composed rules of a setting change with members, and in which they are made from scratch.
use Rattle.std.specs.Prelude.{◌≡◌, ℕ, Bool, zero, suc, false, not, ◌+◌, Some, List, filter, length, map, slice_get}
use Rattle.std.specs.Prelude.{sum_by, take, IsPermutation}
use Rattle.std.specs.Option.{option_map_or}
use Rattle.agreement.specs.declared.state.Setting.{Setting}
use Rattle.hop_rules.specs.Counts.{change_steps}
use Rattle.hop_rules.specs.Links.{ends, place}
use Rattle.hop_rules.specs.Tables.{TableOf, rules_at as rules_kept}
use Rattle.incr_compile.specs.Costs.{steps_from_scratch, steps_of}
use Rattle.policy_meaning.specs.Hops.{Fabric}
use Rattle.policy_meaning.specs.Networks.{fabric_of, ports_of, switch_rules, table_rules, table_size}
use Rattle.policy_meaning.specs.Switches.{SwitchOf}
use Rattle.policy_meaning.specs.declared.leaf.LeafTable.{LeafTable}
use Rattle.policy_meaning.specs.declared.network.Network.{Network}
use Rattle.policy_meaning.specs.declared.network.Place.{Place}
use Rattle.virtual_topology.specs.declared.plan.TopologyPlan.{TopologyPlan}
use Rattle.virtual_topology.specs.Wires.{Joint, outside_joints}

-- ---- at the expression of a virtual switch
-- where the tables of members change
abbrev pub expression_steps : List LeafTable → List LeafTable → SwitchOf → ℕ
expression_steps before after x =
    steps_of (λ i. table_size (slice_get before i)) (λ i. table_rules (ports_of x) (slice_get before i))
    (λ i. table_rules (ports_of x) (slice_get after i)) x.expr

-- from no rules
abbrev pub compile_steps : List LeafTable → SwitchOf → ℕ
compile_steps tables x = steps_from_scratch tables (ports_of x) x.expr

-- ---- through hops
-- whether the rules of a virtual switch are for all its ports at once
abbrev pub whole_in : Setting → ℕ → Bool
whole_in s v = option_map_or (λ (x : SwitchOf). x.whole) (slice_get s.network.switches v) false

-- the outside ports that have rules of their own
abbrev pub own_places : TopologyPlan → Setting → List Place
own_places plan s = filter (λ (p : Place). not (whole_in s p.v)) (map (λ (j : Joint). place j.0) (outside_joints plan))

-- where the rules of virtual switches change; those of whole ones go through no hop
abbrev pub hop_steps : TopologyPlan → Setting → Fabric → Fabric → ℕ
hop_steps plan s before after = change_steps before after (ends plan) (own_places plan s) s.hops

-- the network as hops see it where only the first n virtual switches have their rules
abbrev pub first_fabric : Network → ℕ → Fabric
first_fabric net n = record {
  rules = λ v. switch_rules net.tables (slice_get (take n net.switches) v);
  sizes = (fabric_of net).sizes;
  links = (fabric_of net).links;
}

-- the first n are handed over, one after the other
abbrev pub first_steps : TopologyPlan → Setting → ℕ → ℕ
first_steps plan s zero = 0
first_steps plan s (suc n) = first_steps plan s n + hop_steps plan s (first_fabric s.network n)
    (first_fabric s.network (n + 1))

-- a table of hops has the rules of the first n, where they aren't for all ports at once
abbrev pub HasFirst : Setting → ℕ → TableOf → Type 0
HasFirst s n t = (v : ℕ) (x : SwitchOf) → slice_get s.network.switches v ≡ Some x → x.whole ≡ false
    → IsPermutation (rules_kept t v) ((first_fabric s.network n).rules v)

-- ---- all of them
-- from the setting before to the one after: at each expression, and through hops
abbrev pub setting_steps : TopologyPlan → Setting → Setting → ℕ
setting_steps plan before after =
    sum_by (expression_steps before.network.tables after.network.tables) before.network.switches
    + hop_steps plan before (fabric_of before.network) (fabric_of after.network)

-- from scratch: at each expression, and through hops as one virtual switch after the other has its rules
abbrev pub building_steps : TopologyPlan → Setting → ℕ
building_steps plan s = sum_by (compile_steps s.network.tables) s.network.switches + first_steps plan s
    (length s.network.switches)
