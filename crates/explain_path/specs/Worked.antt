-- Traces, computed.
use Rattle.std.specs.Prelude.{◌≡◌, ℕ, Bool, true, false, List, [], ◌∷◌}
use Rattle.of10_actions.specs.declared.effects.Tail.TheVariants.{Nothing}
use Rattle.policy_expr.specs.Policy.{Policy, member, sequential, override}
use Rattle.policy_meaning.specs.WorkedHops.{split_switch}
use Rattle.policy_meaning.specs.WorkedTables.{balancer, does, entry, firewall, from_net, packet_to, server_router}
use Rattle.policy_meaning.specs.WorkedTables.{table, to_port}
use Rattle.policy_meaning.specs.declared.leaf.LeafTable.{LeafTable}
use Rattle.explain_path.specs.Traces.{asked, trace}
use Rattle.explain_path.specs.Used.{used_of}
use Rattle.explain_path.specs.declared.trace.HopTrace.{HopTrace}
use Rattle.explain_path.specs.declared.trace.LeafTrace.{LeafTrace}

-- a member that was asked
abbrev pub leaf : ℕ → ℕ → Bool → LeafTrace
leaf i kind used = record { member = i; kind = kind; used = used }

-- one evaluation
abbrev pub hop : ℕ → ℕ → List LeafTrace → HopTrace
hop v port leaves = record { v = v; port = port; leaves = leaves }

-- who is asked of the packet from 10.0.1.7 to an address
abbrev pub asked_of : List LeafTable → Policy → ℕ → List LeafTrace
asked_of tables e address = asked tables e (packet_to address)

-- a firewall of packets from 10.0.0.9 alone
abbrev pub narrow_firewall : LeafTable
narrow_firewall = table 0 true (entry 1 (from_net 0x0a000009 32) 4 (does [] Nothing) ∷ [])

-- a router of packets from 10.0.0.0/8
abbrev pub wide_router : LeafTable
wide_router = table 1 true (entry 1 (from_net 0x0a000000 8) 4 (does (to_port 2) Nothing) ∷ [])

-- a firewall that misses the packet was asked, and isn't used; one whose entry holds it leaves the router unasked
abbrev pub MissOfTheLeft : Type 0
MissOfTheLeft =
    let e = override (member 0) (member 1) in
    (asked_of (narrow_firewall ∷ wide_router ∷ []) e 0x01020304 ≡ leaf 0 1 false ∷ leaf 1 3 true ∷ [])
    × (asked_of (firewall ∷ wide_router ∷ []) e 0x01020304 ≡ leaf 0 3 true ∷ [])

-- the router behind a balancer is asked only of what the balancer passes on, as it rewrites it
abbrev pub RightOfAPass : Type 0
RightOfAPass =
    let e = sequential (member 0) (member 1) in
    (asked_of (balancer ∷ server_router ∷ []) e 0x01020304 ≡ leaf 0 3 true ∷ leaf 1 3 true ∷ [])
    × (asked_of (balancer ∷ server_router ∷ []) e 0x02000001 ≡ leaf 0 1 true ∷ [])

-- three evaluations, after which the packet leaves
abbrev pub ThreeHops : Type 0
ThreeHops =
    trace (split_switch 8 true) 4 0 (packet_to 0x0a000001)
    ≡ hop 0 1 (leaf 0 3 true ∷ []) ∷ hop 1 9 (leaf 1 3 true ∷ []) ∷ hop 0 8 (leaf 0 4 true ∷ []) ∷ []

-- four, after which no hop is left; the leaves are those of the rule of level 2340
abbrev pub FourHops : Type 0
FourHops =
    (trace (split_switch 8 false) 4 0 (packet_to 0x0a000001)
    ≡ hop 0 1 (leaf 0 3 true ∷ []) ∷ hop 1 9 (leaf 1 3 true ∷ []) ∷ hop 0 8 (leaf 0 4 true ∷ [])
    ∷ hop 1 9 (leaf 1 3 true ∷ []) ∷ [])
    × (used_of (trace (split_switch 8 false) 4 0 (packet_to 0x0a000001))
    ≡ record { member = 0; kind = 3 } ∷ record { member = 1; kind = 3 } ∷ record { member = 0; kind = 4 }
    ∷ record { member = 1; kind = 3 } ∷ [])
