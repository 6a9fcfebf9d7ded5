-- The machine's policy and tables, as evaluation, rules and walks read them.
use Rattle.std.specs.Prelude.{ℕ, ◌==◌, Option, Some, None, if◌then◌else◌, List, ◌++◌, map, filter_map, slice_get, zip}
use Rattle.std.specs.Prelude.{All}
use Rattle.std.specs.List.{enumerate_from}
use Rattle.of10_match.specs.Fields.{HeaderOf}
use Rattle.of10_actions.specs.Effects.{effects_of}
use Rattle.of10_actions.specs.declared.effects.PortView.{PortView}
use Rattle.grants.specs.declared.grant.Grant.{Grant}
use Rattle.member_table.specs.Tables.{Held}
use Rattle.member_table.specs.declared.entry.Entry.{Entry}
use Rattle.policy_expr.specs.Policy.{Policy, policy_of}
use Rattle.policy_expr.specs.declared.expr.Expr.{Expr}
use Rattle.policy_meaning.specs.Meaning.{evaluate}
use Rattle.policy_meaning.specs.Networks.{table_meaning}
use Rattle.policy_meaning.specs.Switches.{SwitchOf}
use Rattle.policy_meaning.specs.declared.leaf.LeafEntry.{LeafEntry}
use Rattle.policy_meaning.specs.declared.leaf.LeafTable.{LeafTable}
use Rattle.policy_meaning.specs.declared.meaning.Meaning.{Meaning}
use Rattle.policy_meaning.specs.declared.network.Link.{Link}
use Rattle.policy_meaning.specs.declared.network.Network.{Network}
use Rattle.virtual_topology.specs.Wires.{Joint, both_ways, is_lone_of, is_spread_of, link_joints, outside_joints}
use Rattle.virtual_topology.specs.declared.plan.TopologyPlan.{TopologyPlan}
use Rattle.packet_map.specs.Rising.{SeesRising}
use Rattle.packet_map.specs.declared.world.World.{World}

-- the levels of a member: how many, and that of each rank
pub record LevelsOf : Type 0 where
  pub size : ℕ
  pub level : ℕ → ℕ

-- an entry of the member of this number, which sees these ports
abbrev pub leaf_entry : LevelsOf → ℕ → PortView → Entry → LeafEntry
leaf_entry levels i view e = record {
  serial = e.serial;
  rank = e.rank;
  m = e.normal;
  level = levels.level e.rank;
  effects = effects_of view i e.actions;
}

-- the entries of the member of this number in their order, with what its grant lets it see
abbrev pub leaf_table : LevelsOf → ℕ → Grant → List Entry → LeafTable
leaf_table levels i g entries = record {
  member = i;
  size = levels.size;
  region = g.regions;
  visible = g.ports.outside ++ g.ports.links;
  misses = g.misses;
  entries = map (leaf_entry levels i g.ports) entries;
}

-- packets are followed without levels
abbrev pub no_levels : LevelsOf
no_levels = record { size = 0; level = λ rank. 0 }

-- the tables of members by number, each with its grant
abbrev pub numbered_table : ℕ × (Grant × Held) → LeafTable
numbered_table (i, (g, held)) = leaf_table no_levels i g held.table.entries

abbrev pub tables_of : List Grant → List Held → List LeafTable
tables_of grants tables = map numbered_table (enumerate_from 0 (zip grants tables))

-- an outside port of the virtual switch
abbrev pub outside_from : ℕ → Joint → Option ℕ
outside_from v j = if j.0.0 == v then Some j.0.1 else None

-- a link that begins at the virtual switch
abbrev pub link_from : ℕ → Joint → Option Link
link_from v j = if j.0.0 == v then Some (record { port = j.0.1; peer = record { v = j.1.0; port = j.1.1 } }) else None

-- the links of a virtual switch, each from its own end
abbrev pub links_of : TopologyPlan → ℕ → List Link
links_of plan v = filter_map (link_from v) (both_ways (link_joints plan))

-- a virtual switch by number, with its expression
abbrev pub numbered_switch : TopologyPlan → ℕ × Expr → SwitchOf
numbered_switch plan (v, e) = record {
  expr = policy_of e;
  outside = filter_map (outside_from v) (outside_joints plan);
  links = links_of plan v;
  spread = is_spread_of plan v;
  whole = is_lone_of plan v;
}

abbrev pub switches_of : TopologyPlan → List Expr → List SwitchOf
switches_of plan exprs = map (numbered_switch plan) (enumerate_from 0 exprs)

-- the network that is read to follow packets
abbrev pub network_of : World → Network
network_of w = record {
  tables = tables_of w.grants.now w.tables.now;
  switches = switches_of w.topology.now w.exprs.now;
}

-- what an expression does there
abbrev pub meant : World → Policy → HeaderOf → Meaning
meant w e h = evaluate (λ i. table_meaning (slice_get (network_of w).tables i)) e h

-- each member's visible ports are listed in rising order
abbrev pub SeeRising : World → Type 0
SeeRising w = All SeesRising w.grants.now
