-- Packets that members send and are told of, computed.
use Rattle.std.specs.Prelude.{◌≡◌, ℕ, Bool, true, false, Some, None, List, [], ◌∷◌, ◌++◌, map}
use Rattle.of10_match.specs.Fields.{HeaderOf, MatchOf}
use Rattle.of10_match.specs.Matching.{everything}
use Rattle.of10_actions.specs.Effects.{effects_of}
use Rattle.of10_actions.specs.Numbers.{ALL, CONTROLLER, FLOOD, IN_PORT, NONE, NORMAL, TABLE}
use Rattle.of10_actions.specs.Rewriting.{no_rewrite}
use Rattle.of10_actions.specs.declared.action.Action.{Action}
use Rattle.of10_actions.specs.declared.action.Action.TheVariants.{Output, SetNwDst}
use Rattle.of10_actions.specs.declared.effects.PortView.{PortView}
use Rattle.grants.specs.declared.grant.Grant.{Grant}
use Rattle.member_table.specs.Tables.{Held}
use Rattle.member_table.specs.declared.entry.Entry.{Entry}
use Rattle.policy_expr.specs.Policy.{member, parallel, sequential}
use Rattle.policy_meaning.specs.Networks.{ground_of}
use Rattle.policy_meaning.specs.Walk.{walk}
use Rattle.policy_meaning.specs.WorkedTables.{packet_to, to_net, to_server}
use Rattle.policy_meaning.specs.declared.network.Network.{Network}
use Rattle.policy_meaning.specs.declared.walking.PortOut.{PortOut}
use Rattle.policy_meaning.specs.declared.walking.Told.{Told}
use Rattle.policy_meaning.specs.declared.walking.Walked.{Walked}
use Rattle.packet_map.specs.Networks.{tables_of}
use Rattle.packet_map.specs.Sending.{given, ingress_of, table_from}

-- four ports
abbrev pub four : PortView
four = record { v = 0; outside = 1 ∷ 2 ∷ 3 ∷ 4 ∷ []; links = [] }

-- what the first member sends by one output, where it gives this in_port
abbrev pub sends : ℕ → ℕ → Walked
sends in_port port = given 0 (ingress_of in_port) in_port (effects_of four 0 (Output port 0 ∷ [])).outs

-- unchanged, by these ports
abbrev pub leave_by : List ℕ → Walked
leave_by ports = record { outs = map (λ p. record { v = 0; port = p; rewrite = no_rewrite }) ports; told = [] }

-- the first member is told
abbrev pub told_with : ℕ → Walked
told_with in_port =
    record { outs = []; told = record { member = 0; in_port = in_port; reason = 1; rewrite = no_rewrite } ∷ [] }

-- FLOOD and ALL leave out the in_port, and nothing where it is no port
abbrev pub FloodsAreSent : Type 0
FloodsAreSent =
    (sends NONE FLOOD ≡ leave_by (1 ∷ 2 ∷ 3 ∷ 4 ∷ []))
    × (sends 2 FLOOD ≡ leave_by (1 ∷ 3 ∷ 4 ∷ []))
    × (sends 0xff00 ALL ≡ leave_by (1 ∷ 2 ∷ 3 ∷ 4 ∷ []))

-- IN_PORT is the in_port, and nothing where that is no port; an output to the in_port by its number is none
abbrev pub IngressIsSent : Type 0
IngressIsSent = (sends 2 IN_PORT ≡ leave_by (2 ∷ [])) × (sends NONE IN_PORT ≡ leave_by []) × (sends 2 2 ≡ leave_by [])
    × (sends NONE 2 ≡ leave_by (2 ∷ []))

-- who is told is told the in_port as it was given
abbrev pub InPortIsTold : Type 0
InPortIsTold = (sends 2 CONTROLLER ≡ told_with 2) × (sends NONE CONTROLLER ≡ told_with 65535)

-- TABLE takes the packet up as rewritten so far; no other output does
abbrev pub TableTakesUp : Type 0
TableTakesUp =
    (table_from no_rewrite (SetNwDst 0x02000001 ∷ Output TABLE 0 ∷ []) ≡ Some to_server)
    × (table_from no_rewrite (SetNwDst 0x02000001 ∷ Output NORMAL 0 ∷ []) ≡ None)

-- a member that sees four ports and may act on all headers
abbrev pub grant : Bool → Grant
grant misses = record {
  fields = 0xfff;
  src_max = 32;
  dst_max = 32;
  actions = 0x7ff;
  ports = four;
  regions = everything ∷ [];
  misses = misses;
  packet_out = true;
}

-- an entry of priority 100
abbrev pub entry : MatchOf → List Action → Entry
entry m actions = record {
  serial = 1;
  raw = [];
  normal = m;
  priority = 100;
  rank = 100;
  cookie = 0;
  idle = 0;
  hard = 0;
  flags = 0;
  actions = actions;
  added = 0;
  last = 0;
}

abbrev pub holding : List Entry → Held
holding entries = record { table = record { entries = entries; next = 2; limit = 8 }; room = 0 }

-- a monitor of all packets, beside a load balancer before a router without entries
abbrev pub monitored : Network
monitored = record {
  tables = tables_of (grant false ∷ grant false ∷ grant true ∷ [])
      (holding (entry everything (Output CONTROLLER 0 ∷ []) ∷ [])
      ∷ holding (entry (to_net 0x01020304 32) (SetNwDst 0x02000001 ∷ Output NORMAL 0 ∷ []) ∷ []) ∷ holding [] ∷ []);
  switches = record {
    expr = parallel (member 0) (sequential (member 1) (member 2));
    outside = 1 ∷ 2 ∷ 3 ∷ 4 ∷ [];
    links = [];
    spread = false;
    whole = true;
  } ∷ [];
}

-- the monitor is told of the packet as it came, and then the router of what the balancer made of it
abbrev pub TwoAreTold : Type 0
TwoAreTold =
    walk (ground_of monitored) 4 0 (packet_to 0x01020304)
    ≡ record {
      outs = [];
      told = record { member = 0; in_port = 1; reason = 1; rewrite = no_rewrite }
          ∷ record { member = 2; in_port = 1; reason = 0; rewrite = to_server } ∷ [];
    }
