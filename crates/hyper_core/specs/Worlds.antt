-- What is read of a machine: composed rules, the entries that stand on a switch, and what packets are followed over.
use Rattle.std.specs.Prelude.{◌≡◌, ℕ, List, Option, Some, None, filter_map, if◌then◌else◌, length, map, slice_get, zip}
use Rattle.std.specs.List.{enumerate_from}
use Rattle.cv_io.specs.declared.leaf.Who.TheVariants.{Switch}
use Rattle.grants.specs.declared.grant.Grant.{Grant}
use Rattle.install_plan.specs.declared.written.Written.{Written}
use Rattle.member_table.specs.Tables.{Held as HeldTable, TableOf}
use Rattle.packet_map.specs.Networks.{leaf_table, links_of, no_levels, outside_from}
use Rattle.policy_expr.specs.Policy.{Policy}
use Rattle.policies.specs.Policies.{PolicyOf, plan}
use Rattle.policies.specs.declared.policy.MemberItem.{MemberItem}
use Rattle.policy_meaning.specs.Networks.{switch_rules}
use Rattle.policy_meaning.specs.Switches.{SwitchOf as VirtualSwitchOf}
use Rattle.policy_meaning.specs.declared.leaf.LeafTable.{LeafTable}
use Rattle.policy_meaning.specs.declared.network.Network.{Network}
use Rattle.virtual_topology.specs.Wires.{is_lone_of, is_spread_of, outside_joints}
use Rattle.virtual_topology.specs.declared.plan.TopologyPlan.{TopologyPlan}
use Rattle.machine_meaning.specs.Sessions.{is_up, standing_of}
use Rattle.machine_meaning.specs.Settings.{setting_of}
use Rattle.machine_meaning.specs.States.{MemberOf, State}
use Rattle.hyper_core.specs.declared.worlds.Tables.{Tables}

-- the entries that stand on a switch, if it is up
abbrev pub installed_on : State → ℕ → Option (List Written)
installed_on s n = if is_up s (Switch n) then Some (standing_of s n) else None

-- how many composed rules the expression of a virtual switch has
abbrev pub rule_count : PolicyOf → State → ℕ → ℕ
rule_count p s v =
    length (switch_rules (setting_of p s).network.tables (slice_get (setting_of p s).network.switches v))

-- the grant of a member, and its table
abbrev pub grant_of : MemberItem → Grant
grant_of m = m.grant

abbrev pub table_of : MemberOf → TableOf
table_of x = x.kept.table

-- a table, without the memory that it has in store
abbrev pub table_in : HeldTable → TableOf
table_in t = t.table

-- these are the grants and the tables of the members
pub record AreTablesOf (p : PolicyOf) (s : State) (t : Tables) : Type 0 where
  pub grants : t.grants ≡ map grant_of p.members
  pub tables : map table_in t.tables ≡ map table_of s.members

-- the table of a member by number, with what its grant lets it see
abbrev pub numbered_member : ℕ × (MemberItem × MemberOf) → LeafTable
numbered_member (n, (m, x)) = leaf_table no_levels n m.grant x.kept.table.entries

-- a virtual switch by number, with its expression
abbrev pub numbered_virtual : TopologyPlan → ℕ × Policy → VirtualSwitchOf
numbered_virtual t (v, e) = record {
  expr = e;
  outside = filter_map (outside_from v) (outside_joints t);
  links = links_of t v;
  spread = is_spread_of t v;
  whole = is_lone_of t v;
}

-- the network over which packets are followed
abbrev pub network_in : PolicyOf → State → Network
network_in p s = record {
  tables = map numbered_member (enumerate_from 0 (zip p.members s.members));
  switches = map (numbered_virtual (plan p)) (enumerate_from 0 s.exprs);
}
