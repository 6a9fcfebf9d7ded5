-- Virtual switches that split one physical switch, and walks, computed.
use Rattle.std.specs.Prelude.{◌≡◌, ℕ, Bool, true, false, List, [], ◌∷◌, map, if◌then◌else◌, slice_get}
use Rattle.of10_match.specs.Matching.{at_port, everything}
use Rattle.of10_actions.specs.Rewriting.{no_rewrite}
use Rattle.of10_actions.specs.declared.effects.Tail.{Tail}
use Rattle.policy_expr.specs.Policy.{member, parallel, sequential}
use Rattle.policy_meaning.specs.Meaning.{evaluate}
use Rattle.policy_meaning.specs.Hops.{node, hop_size}
use Rattle.policy_meaning.specs.Walk.{walk}
use Rattle.policy_meaning.specs.Networks.{fabric_of, ground_of, table_meaning}
use Rattle.policy_meaning.specs.WorkedTables.{to_port, does, entry, teller, second_balancer, idle_router, to_server}
use Rattle.policy_meaning.specs.WorkedTables.{packet_to}
use Rattle.policy_meaning.specs.WorkedRules.{at_level, placed}
use Rattle.policy_meaning.specs.declared.leaf.LeafEntry.{LeafEntry}
use Rattle.policy_meaning.specs.declared.leaf.LeafTable.{LeafTable}
use Rattle.policy_meaning.specs.declared.network.Link.{Link}
use Rattle.policy_meaning.specs.declared.network.Network.{Network}

-- a table of `size` levels that sees its ports and links, and is not told of misses
abbrev pub hop_table : ℕ → ℕ → List ℕ → List LeafEntry → LeafTable
hop_table size i visible entries =
    record { member = i; size = size; region = everything ∷ []; visible = visible; misses = false; entries = entries }

-- packets that come by a port go on at a link
abbrev pub goes_on : ℕ → ℕ → ℕ → LeafEntry
goes_on serial port link = entry serial (at_port port) 4 (does [] (Tail.Link no_rewrite link))

-- the member of the first virtual switch sends what comes by port 1 to link 9; what comes back by link 8 it sends to
-- port 1, or once more to link 9
abbrev pub first_member : ℕ → Bool → LeafTable
first_member size leaves = hop_table size 0 (1 ∷ 2 ∷ 8 ∷ 9 ∷ [])
    (goes_on 1 1 9 ∷ (if leaves then entry 2 (at_port 8) 4 (does (to_port 1) Tail.Nothing) else goes_on 2 8 9) ∷ [])

-- the member of the second sends what comes by link 9 to link 8
abbrev pub second_member : ℕ → LeafTable
second_member size = hop_table size 1 (1 ∷ 2 ∷ 8 ∷ 9 ∷ []) (goes_on 1 9 8 ∷ [])

-- a link port that is joined with the port of that number at another virtual switch
abbrev pub joined : ℕ → ℕ → Link
joined v port = record { port = port; peer = record { v = v; port = port } }

-- two virtual switches that are joined by links at 8 and at 9
abbrev pub split_switch : ℕ → Bool → Network
split_switch size leaves = record {
  tables = first_member size leaves ∷ second_member size ∷ [];
  switches = record {
    expr = member 0;
    outside = 1 ∷ 2 ∷ [];
    links = joined 1 8 ∷ joined 1 9 ∷ [];
    spread = false;
    whole = false;
  }
      ∷ record {
        expr = member 1;
        outside = 1 ∷ 2 ∷ [];
        links = joined 0 8 ∷ joined 0 9 ∷ [];
        spread = false;
        whole = false;
      } ∷ [];
}

-- the sizes over one to four hops
abbrev pub SizesOverHops : Type 0
SizesOverHops =
    (map (λ n. hop_size (fabric_of (split_switch 8 true)) n 0) (1 ∷ 2 ∷ 3 ∷ 4 ∷ []) ≡ 8 ∷ 64 ∷ 512 ∷ 4096 ∷ [])
    × (map (λ n. hop_size (fabric_of (split_switch 16 true)) n 0) (1 ∷ 2 ∷ 3 ∷ 4 ∷ []) ≡ 16 ∷ 256 ∷ 4096 ∷ 65536 ∷ [])

-- three evaluations, after which the packet leaves at its ingress: level 4 * 512 + 4 * 64 + 4 * 8
abbrev pub ThreeHops : Type 0
ThreeHops =
    (placed (node (fabric_of (split_switch 8 true)) 4 0 1)
    ≡ at_level (1 ∷ []) 512 ∷ at_level (3 ∷ 1 ∷ []) 2112 ∷ at_level (3 ∷ 3 ∷ 1 ∷ []) 2312
    ∷ at_level (3 ∷ 3 ∷ 4 ∷ []) 2336 ∷ [])
    × (walk (ground_of (split_switch 8 true)) 4 0 (packet_to 0x0a000001)
    ≡ record { outs = record { v = 0; port = 1; rewrite = no_rewrite } ∷ []; told = [] })

-- four evaluations, after which no hop is left: level 2336 + 4, and nothing leaves
abbrev pub FourHops : Type 0
FourHops =
    (placed (node (fabric_of (split_switch 8 false)) 4 0 1)
    ≡ at_level (1 ∷ []) 512 ∷ at_level (3 ∷ 1 ∷ []) 2112 ∷ at_level (3 ∷ 3 ∷ 1 ∷ []) 2312
    ∷ at_level (3 ∷ 3 ∷ 4 ∷ 1 ∷ []) 2337 ∷ at_level (3 ∷ 3 ∷ 4 ∷ 3 ∷ []) 2340 ∷ [])
    × (walk (ground_of (split_switch 8 false)) 4 0 (packet_to 0x0a000001) ≡ record { outs = []; told = [] })

-- `teller + (balancer >> router)`: the monitor is told of the packet, and then the router of what the balancer made of
-- it
abbrev pub TwoAreTold : Type 0
TwoAreTold =
    let tables = teller ∷ second_balancer ∷ idle_router ∷ [] in
    walk (record {
      means = λ v. evaluate (λ i. table_meaning (slice_get tables i))
          (parallel (member 0) (sequential (member 1) (member 2)));
      links = λ v. [];
      spread = λ v. false;
    }) 1 0
    (packet_to 0x01020304)
    ≡ record {
      outs = [];
      told = record { member = 0; in_port = 1; reason = 1; rewrite = no_rewrite }
          ∷ record { member = 2; in_port = 1; reason = 0; rewrite = to_server } ∷ [];
    }
