-- The members of the worked examples: their tables, and headers of packets.
use Rattle.std.specs.Prelude.{ℕ, Bool, true, false, Some, List, [], ◌∷◌}
use Rattle.of10_match.specs.Fields.{HeaderOf, MatchOf}
use Rattle.of10_match.specs.Matching.{everything}
use Rattle.of10_actions.specs.Fields.{RewriteOf}
use Rattle.of10_actions.specs.Rewriting.{no_rewrite}
use Rattle.of10_actions.specs.declared.effects.Effects.{Effects}
use Rattle.of10_actions.specs.declared.effects.Out.{Out}
use Rattle.of10_actions.specs.declared.effects.Dest.TheVariants.{Port, Tell}
use Rattle.of10_actions.specs.declared.effects.Tail.{Tail}
use Rattle.of10_actions.specs.declared.effects.Tail.TheVariants.{Nothing, Pass}
use Rattle.policy_meaning.specs.declared.leaf.LeafEntry.{LeafEntry}
use Rattle.policy_meaning.specs.declared.leaf.LeafTable.{LeafTable}

-- packets of IPv4 from a prefix
abbrev pub from_net : ℕ → ℕ → MatchOf
from_net addr len = record everything { dl_type = Some 0x0800; nw_src = Some (record { addr = addr; len = len }) }

-- packets of IPv4 to a prefix
abbrev pub to_net : ℕ → ℕ → MatchOf
to_net addr len = record everything { dl_type = Some 0x0800; nw_dst = Some (record { addr = addr; len = len }) }

-- one packet leaves by a port of the first virtual switch
abbrev pub to_port : ℕ → List Out
to_port p = record { rewrite = no_rewrite; dest = Port 0 p } ∷ []

-- outs and a tail
abbrev pub does : List Out → Tail → Effects
does outs tail = record { outs = outs; tail = tail }

-- an entry of priority 100
abbrev pub entry : ℕ → MatchOf → ℕ → Effects → LeafEntry
entry serial m level effects = record { serial = serial; rank = 100; m = m; level = level; effects = effects }

-- a table of 8 levels that sees ports 1 to 4 and may act on all headers
abbrev pub table : ℕ → Bool → List LeafEntry → LeafTable
table member misses entries =
    record {
      member = member;
      size = 8;
      region = everything ∷ [];
      visible = 1 ∷ 2 ∷ 3 ∷ 4 ∷ [];
      misses = misses;
      entries = entries;
    }

-- a monitor: it looks at packets from 10.0.1.0/24
abbrev pub monitor : LeafTable
monitor = table 0 false (entry 1 (from_net 0x0a000100 24) 4 (does [] Nothing) ∷ [])

-- a router: 10.0.2.0/24, and above it 10.0.2.9, are at port 2
abbrev pub router : LeafTable
router = table 1 true (entry 1 (to_net 0x0a000200 24) 4 (does (to_port 2) Nothing)
    ∷ record (entry 2 (to_net 0x0a000209 32) 6 (does (to_port 2) Nothing)) { rank = 200 } ∷ [])

-- the server to which the load balancer sends
abbrev pub to_server : RewriteOf
to_server = record no_rewrite { nw_dst = Some 0x02000001 }

-- a load balancer: packets to 1.2.3.4 go to the server, and are passed on
abbrev pub balancer : LeafTable
balancer = table 0 false (entry 1 (to_net 0x01020304 32) 4 (does [] (Pass to_server)) ∷ [])

-- a router to the servers' net at port 1
abbrev pub server_router : LeafTable
server_router = table 1 true (entry 1 (to_net 0x02000000 24) 4 (does (to_port 1) Nothing) ∷ [])

-- a firewall: packets from 10.0.1.0/24 go to port 2
abbrev pub firewall : LeafTable
firewall = table 0 true (entry 1 (from_net 0x0a000100 24) 4 (does (to_port 2) Nothing) ∷ [])

-- a monitor of all packets, which is told of each
abbrev pub teller : LeafTable
teller = table 0 false (entry 1 everything 4 (does (record { rewrite = no_rewrite; dest = Tell 0 1 } ∷ []) Nothing)
    ∷ [])

-- a load balancer behind it
abbrev pub second_balancer : LeafTable
second_balancer = record balancer { member = 1 }

-- a router without entries
abbrev pub idle_router : LeafTable
idle_router = table 2 true []

-- an UDP packet from 10.0.1.7 to this address, which comes by port 1
abbrev pub packet_to : ℕ → HeaderOf
packet_to address = record {
  in_port = 1;
  dl_src = 1;
  dl_dst = 2;
  dl_vlan = 65535;
  dl_vlan_pcp = 0;
  dl_type = 0x0800;
  nw_tos = 0;
  nw_proto = 17;
  nw_src = 0x0a000107;
  nw_dst = address;
  tp_src = 1000;
  tp_dst = 53;
}
