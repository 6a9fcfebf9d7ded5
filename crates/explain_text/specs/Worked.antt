-- Answers, computed.
use Rattle.std.specs.Prelude.{◌≡◌, ℕ, true, false, List, [], ◌∷◌, Some, None, codes, refl}
use Rattle.explain_path.specs.Worked.{leaf, narrow_firewall, wide_router}
use Rattle.install_plan.specs.declared.written.Written.{Written}
use Rattle.of10_actions.specs.Rewriting.{no_rewrite}
use Rattle.of10_match.specs.Matching.{at_port}
use Rattle.pkt_bytes.specs.Ipv4.{ipv4_at, ports_of}
use Rattle.pkt_bytes.specs.Link.{link_of, payload_at}
use Rattle.policy_expr.specs.Policy.{member, override, sequential}
use Rattle.policy_meaning.specs.WorkedHops.{split_switch}
use Rattle.policy_meaning.specs.WorkedTables.{balancer, table}
use Rattle.policy_meaning.specs.declared.network.Network.{Network}
use Rattle.virtual_topology.specs.Worked.{link_at, outside_at, s1, switch_of, v1, v2, virtual_of}
use Rattle.virtual_topology.specs.declared.plan.TopologyPlan.{TopologyPlan}
use Rattle.virtual_topology.specs.declared.plan.VirtualItem.{VirtualItem}
use Rattle.explain_text.specs.Answers.{explained}
use Rattle.explain_text.specs.Entering.{entrance_of}
use Rattle.explain_text.specs.declared.entrance.Entrance.{Entrance}
use Rattle.explain_text.specs.declared.finding.Finding.TheVariants.{Hop, Leaf, Out, Tell, Entry, Down}

-- one switch of four ports, and these virtual switches on it
abbrev pub plan_of : List VirtualItem → TopologyPlan
plan_of virtuals = record {
  switches = switch_of s1 1 (1 ∷ 2 ∷ 3 ∷ 4 ∷ []) ∷ [];
  cables = [];
  virtuals = virtuals;
  links = [];
}

-- a virtual switch that has all four
abbrev pub whole : TopologyPlan
whole =
    plan_of
    (virtual_of v1 161 (outside_at 1 s1 1 ∷ outside_at 2 s1 2 ∷ outside_at 3 s1 3 ∷ outside_at 4 s1 4 ∷ []) ∷ [])

-- two that have two each, and two links
abbrev pub split : TopologyPlan
split =
    plan_of
    (virtual_of v1 161 (outside_at 1 s1 1 ∷ outside_at 2 s1 2 ∷ link_at 8 ∷ link_at 9 ∷ [])
    ∷ virtual_of v2 162 (outside_at 1 s1 3 ∷ outside_at 2 s1 4 ∷ link_at 8 ∷ link_at 9 ∷ []) ∷ [])

-- a packet of UDP from 10.0.0.1 to 1.2.3.4
abbrev pub packet : List ℕ
packet =
    0x00 ∷ 0x00 ∷ 0x00 ∷ 0x00 ∷ 0x00 ∷ 0x02 ∷ 0x00 ∷ 0x00 ∷ 0x00 ∷ 0x00 ∷ 0x00 ∷ 0x01 ∷ 0x08 ∷ 0x00 ∷
    0x45 ∷ 0x00 ∷ 0x00 ∷ 0x1c ∷ 0x00 ∷ 0x00 ∷ 0x00 ∷ 0x00 ∷ 0x40 ∷ 0x11 ∷ 0x6c ∷ 0xcb ∷ 0x0a ∷ 0x00 ∷
    0x00 ∷ 0x01 ∷ 0x01 ∷ 0x02 ∷ 0x03 ∷ 0x04 ∷ 0x13 ∷ 0x88 ∷ 0x00 ∷ 0x35 ∷ 0x00 ∷ 0x08 ∷ 0xde ∷ 0x1a ∷ []

-- it comes by the first port
abbrev pub at_first : Entrance
at_first = record { switch = 0; port = 1; v = 0; by = 1 }

-- an entry for packets that come by a port
abbrev pub stands : ℕ → ℕ → ℕ → Written
stands port cookie priority = record {
  entry = record { m = at_port port; priority = priority; actions = []; ancestry = [] };
  cookie = cookie;
}

-- a firewall that doesn't know the packet, over a router
abbrev pub guarded : Network
guarded = record {
  tables = narrow_firewall ∷ wide_router ∷ [];
  switches =
      record {
        expr = override (member 0) (member 1);
        outside = 1 ∷ 2 ∷ 3 ∷ 4 ∷ [];
        links = [];
        spread = false;
        whole = true;
      } ∷ [];
}

-- the firewall was asked in vain, and the router's entry sends the packet out
abbrev pub ASwitchedPacket : Type 0
ASwitchedPacket =
    explained whole guarded 4 (Some (stands 1 2 2 ∷ stands 1 3 5 ∷ stands 2 4 9 ∷ [])) at_first packet
    ≡ Hop 0 1 ∷ Leaf (leaf 0 1 false) ∷ Leaf (leaf 1 3 true) ∷ Out 0 2 no_rewrite ∷ Entry 0 3 5 ∷ []

pub switched_packet : ASwitchedPacket
unfolding ipv4_at ports_of link_of payload_at
switched_packet = refl

-- a balancer that sends the packet on to a server, before a router that has no entry
abbrev pub served : Network
served = record {
  tables = balancer ∷ table 1 true [] ∷ [];
  switches =
      record {
        expr = sequential (member 0) (member 1);
        outside = 1 ∷ 2 ∷ 3 ∷ 4 ∷ [];
        links = [];
        spread = false;
        whole = true;
      } ∷ [];
}

-- the router is told of a miss; the switch is down
abbrev pub ATelling : Type 0
ATelling =
    explained whole served 4 None at_first packet
    ≡ Hop 0 1 ∷ Leaf (leaf 0 3 true) ∷ Leaf (leaf 1 1 true) ∷ Tell 1 0 ∷ Down 0 ∷ []

pub telling : ATelling
unfolding ipv4_at ports_of link_of payload_at
telling = refl

-- three evaluations over links, and the packet leaves where it came in
abbrev pub APacketOverLinks : Type 0
APacketOverLinks =
    explained split (split_switch 8 true) 4 (Some (stands 1 9 2337 ∷ [])) at_first packet
    ≡ Hop 0 1 ∷ Leaf (leaf 0 3 true) ∷ Hop 1 9 ∷ Leaf (leaf 1 3 true) ∷ Hop 0 8 ∷ Leaf (leaf 0 4 true)
    ∷ Out 0 1 no_rewrite ∷ Entry 0 9 2337 ∷ []

pub packet_over_links : APacketOverLinks
unfolding ipv4_at ports_of link_of payload_at
packet_over_links = refl

-- a port is found by the name of its switch; another name, and a port that is none, have no place
pub record PlacesAreFound : Type 0 where
  pub there : entrance_of split (codes "s1") 3 ≡ Some (record { switch = 0; port = 3; v = 1; by = 1 })
  pub no_switch : entrance_of split (codes "s2") 3 ≡ None
  pub no_port : entrance_of split (codes "s1") 9 ≡ None
