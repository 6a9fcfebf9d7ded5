-- Rules of members and expressions, computed.
use Rattle.std.specs.Prelude.{◌≡◌, ℕ, true, false, Some, None, List, [], ◌∷◌, map, slice_get}
use Rattle.of10_match.specs.Fields.{MatchOf}
use Rattle.of10_match.specs.Matching.{at_port, everything}
use Rattle.pull_back.specs.Pulling.{pull}
use Rattle.of10_actions.specs.declared.effects.Dest.TheVariants.{Port, Tell}
use Rattle.of10_actions.specs.declared.effects.Tail.TheVariants.{Nothing}
use Rattle.policy_expr.specs.Policy.{Policy, member, parallel, sequential, override}
use Rattle.policy_expr.specs.Sizes.{size_of}
use Rattle.policy_meaning.specs.LeafRules.{leaf_rules}
use Rattle.policy_meaning.specs.Rules.{rules_of}
use Rattle.policy_meaning.specs.Meaning.{evaluate}
use Rattle.policy_meaning.specs.Networks.{table_meaning, table_rules, table_size}
use Rattle.policy_meaning.specs.WorkedTables.{from_net, to_net, to_port, does, entry, table, monitor, router, to_server}
use Rattle.policy_meaning.specs.WorkedTables.{balancer, server_router, firewall, packet_to}
use Rattle.policy_meaning.specs.declared.leaf.LeafTable.{LeafTable}
use Rattle.policy_meaning.specs.declared.meaning.Meaning.{Meaning}
use Rattle.policy_meaning.specs.declared.rule.Rule.{Rule}

-- the ports of the virtual switch
abbrev pub four_ports : List ℕ
four_ports = 1 ∷ 2 ∷ 3 ∷ 4 ∷ []

-- the rules of an expression over these tables
abbrev pub rules_over : List LeafTable → Policy → List Rule
rules_over tables e = rules_of (λ i. table_size (slice_get tables i)) (λ i. table_rules four_ports (slice_get tables i))
    e

-- their number of levels
abbrev pub size_over : List LeafTable → Policy → ℕ
size_over tables e = size_of (λ i. table_size (slice_get tables i)) e

-- what an expression over these tables does
abbrev pub evaluate_over : List LeafTable → Policy → ℕ → Meaning
evaluate_over tables e address = evaluate (λ i. table_meaning (slice_get tables i)) e (packet_to address)

-- the leaves of a rule by their kinds, and its level
pub record Placed : Type 0 where
  pub kinds : List ℕ
  pub level : ℕ

-- these of each rule
abbrev pub placed : List Rule → List Placed
placed rules = map (λ (r : Rule). record { kinds = map (λ leaf. leaf.kind) r.ancestry; level = r.level }) rules

-- the kinds and the level
abbrev pub at_level : List ℕ → ℕ → Placed
at_level kinds level = record { kinds = kinds; level = level }

-- `monitor + router`: 15 levels, 8 and 10 for pairs of entries
abbrev pub MonitorAndRouter : Type 0
MonitorAndRouter =
    let e = parallel (member 0) (member 1) in let tables = monitor ∷ router ∷ [] in
    (size_over tables e ≡ 15)
    × (placed (rules_over tables e) ≡ at_level (1 ∷ 1 ∷ []) 2 ∷ at_level (1 ∷ 3 ∷ []) 5 ∷ at_level (1 ∷ 4 ∷ []) 7
    ∷ at_level (3 ∷ 1 ∷ []) 5 ∷ at_level (3 ∷ 3 ∷ []) 8 ∷ at_level (3 ∷ 4 ∷ []) 10 ∷ [])
    × (evaluate_over tables e 0x0a000209 ≡ record { touched = true; outs = to_port 2; tail = Nothing })

-- `balancer >> router`: 64 levels, and the pair of entries holds what the balancer rewrites
abbrev pub BalancerBeforeRouter : Type 0
BalancerBeforeRouter =
    let e = sequential (member 0) (member 1) in let tables = balancer ∷ server_router ∷ [] in
    (size_over tables e ≡ 64)
    × (rules_over tables e
    ≡ record {
      m = everything;
      level = 8;
      touched = false;
      outs = [];
      tail = Nothing;
      ancestry = record { member = 0; kind = 1 } ∷ [];
    }
    ∷ record {
      m = to_net 0x01020304 32;
      level = 33;
      touched = true;
      outs = record { rewrite = to_server; dest = Tell 1 0 } ∷ [];
      tail = Nothing;
      ancestry = record { member = 0; kind = 3 } ∷ record { member = 1; kind = 1 } ∷ [];
    }
    ∷ record {
      m = to_net 0x01020304 32;
      level = 36;
      touched = true;
      outs = record { rewrite = to_server; dest = Port 0 1 } ∷ [];
      tail = Nothing;
      ancestry = record { member = 0; kind = 3 } ∷ record { member = 1; kind = 3 } ∷ [];
    }
    ∷ [])
    × (evaluate_over tables e 0x01020304
    ≡ record { touched = true; outs = record { rewrite = to_server; dest = Port 0 1 } ∷ []; tail = Nothing })

-- `firewall |> router`: 16 levels, and no rule of the firewall's miss
abbrev pub FirewallOverRouter : Type 0
FirewallOverRouter =
    let e = override (member 0) (member 1) in let tables = firewall ∷ server_router ∷ [] in
    (size_over tables e ≡ 16)
    × (placed (rules_over tables e) ≡ at_level (3 ∷ []) 12 ∷ at_level (1 ∷ []) 1 ∷ at_level (3 ∷ []) 4 ∷ [])

-- ARP packets to 10.0.0.0/8
abbrev pub arp_net : MatchOf
arp_net = record everything { dl_type = Some 0x0806; nw_dst = Some (record { addr = 0x0a000000; len = 8 }) }

-- pulls through nw_dst = 2.0.0.1: ARP stays as it is, a net with the address is no longer asked for, another has none
abbrev pub ThreePulls : Type 0
ThreePulls =
    (pull to_server arp_net ≡ Some arp_net)
    × (pull to_server (to_net 0x02000000 24) ≡ Some (record everything { dl_type = Some 0x0800 }))
    × (pull to_server (to_net 0x03000000 8) ≡ None)

-- a monitor that sees ports 1 and 3 of the four
abbrev pub half_blind : LeafTable
half_blind = record monitor { visible = 1 ∷ 3 ∷ [] }

-- from 10.0.1.0/24, at a port
abbrev pub from_net_by : ℕ → MatchOf
from_net_by p = record (from_net 0x0a000100 24) { in_port = Some p }

-- where ports are hidden, one rule of the miss and of each entry for each visible port, and the outside rule
abbrev pub RulesByPort : Type 0
RulesByPort =
    (placed (leaf_rules four_ports half_blind) ≡ at_level (0 ∷ []) 0 ∷ at_level (1 ∷ []) 1 ∷ at_level (1 ∷ []) 1
    ∷ at_level (3 ∷ []) 4 ∷ at_level (3 ∷ []) 4 ∷ [])
    × (map (λ (r : Rule). r.m) (leaf_rules four_ports half_blind)
    ≡ everything ∷ at_port 1 ∷ at_port 3 ∷ from_net_by 1 ∷ from_net_by 3 ∷ [])

-- a router that may act on what goes to 10.0.0.0/16 alone, with an entry for 10.0.0.0/8 and one for 11.0.0.0/8
abbrev pub confined : LeafTable
confined =
    record
    (table 0 true (entry 1 (to_net 0x0a000000 8) 4 (does (to_port 2) Nothing)
    ∷ entry 2 (to_net 0x0b000000 8) 4 (does (to_port 3) Nothing) ∷ [])) { region = to_net 0x0a000000 16 ∷ [] }

-- each rule holds what the entry and the region hold, and what is outside has a rule below
abbrev pub RegionMetWithEntry : Type 0
RegionMetWithEntry =
    (placed (leaf_rules four_ports confined) ≡ at_level (0 ∷ []) 0 ∷ at_level (1 ∷ []) 1 ∷ at_level (3 ∷ []) 4 ∷ [])
    × (map (λ (r : Rule). r.m) (leaf_rules four_ports confined)
    ≡ everything ∷ to_net 0x0a000000 16 ∷ to_net 0x0a000000 16 ∷ [])
