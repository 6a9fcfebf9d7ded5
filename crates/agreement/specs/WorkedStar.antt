-- Everything at once: three members, three physical switches around a fourth, FLOOD, ranks, boxes and a hidden port.
use Rattle.std.specs.Prelude.{◌≡◌, ℕ, true, false, Some, List, [], ◌∷◌, ◌++◌, map}
use Rattle.of10_match.specs.Fields.{HeaderOf, MatchOf}
use Rattle.of10_match.specs.Matching.{at_port}
use Rattle.of10_actions.specs.Rewriting.{no_rewrite}
use Rattle.of10_actions.specs.declared.action.Action.{Action}
use Rattle.of10_actions.specs.declared.action.Action.TheVariants.{Output, SetNwDst, SetVlanVid, StripVlan}
use Rattle.of10_actions.specs.declared.effects.Dest.TheVariants.{Flood}
use Rattle.of10_actions.specs.declared.effects.Out.{Out}
use Rattle.of10_actions.specs.declared.effects.Tail.TheVariants.{Nothing}
use Rattle.policy_expr.specs.Policy.{member, parallel, sequential}
use Rattle.policy_meaning.specs.Networks.{ground_of}
use Rattle.policy_meaning.specs.Walk.{walk}
use Rattle.policy_meaning.specs.WorkedTables.{does, entry, packet_to, second_balancer, table, teller, to_net, to_port}
use Rattle.policy_meaning.specs.declared.leaf.LeafEntry.{LeafEntry}
use Rattle.policy_meaning.specs.declared.leaf.LeafTable.{LeafTable}
use Rattle.policy_meaning.specs.declared.network.VirtualSwitch.{VirtualSwitch}
use Rattle.switch_meaning.specs.Choosing.{chosen}
use Rattle.switch_meaning.specs.Following.{follow}
use Rattle.switch_meaning.specs.WorkedFlood.{by_tag, hop, lies, spot}
use Rattle.switch_meaning.specs.declared.choosing.Reading.{Reading}
use Rattle.switch_meaning.specs.declared.choosing.Reading.TheVariants.{ExactFirst, PriorityAlone}
use Rattle.switch_meaning.specs.declared.entry.FlowEntry.{FlowEntry}
use Rattle.switch_meaning.specs.declared.fired.Left.{Left}
use Rattle.switch_meaning.specs.declared.fired.Seen.{Seen}
use Rattle.switch_meaning.specs.declared.wiring.Cable.{Cable}
use Rattle.switch_meaning.specs.declared.wiring.Wiring.{Wiring}
use Rattle.agreement.specs.declared.state.PhysicalSwitch.{PhysicalSwitch}
use Rattle.agreement.specs.declared.state.Setting.{Setting}
use Rattle.agreement.specs.Agree.{Agree, AreInstalled}
use Rattle.agreement.specs.Entries.{table_of}
use Rattle.agreement.specs.Premises.{IsSoundSetting}
use Rattle.agreement.specs.Seeing.{expected}

-- DNS queries to the servers' net
abbrev pub queries : MatchOf
queries = record (to_net 0x02000000 24) { nw_proto = Some 17; tp_dst = Some 53 }

-- FLOOD to the ports that the router sees
abbrev pub flood : List Out
flood = map (λ p. record { rewrite = no_rewrite; dest = Flood 0 p }) (1 ∷ 2 ∷ 3 ∷ [])

-- a router that may act on what goes to 2.0.0.0/8 or 3.0.0.0/8 and does not see port 4: the servers' net is at port 2,
-- and above that, at another rank, DNS queries are flooded
abbrev pub flooder_entries : List LeafEntry
flooder_entries =
    entry 1 (to_net 0x02000000 24) 4 (does (to_port 2) Nothing)
    ∷ record (entry 2 queries 6 (does flood Nothing)) { rank = 200 } ∷ []

abbrev pub flooder : LeafTable
flooder = record (table 2 true flooder_entries) {
  region = to_net 0x02000000 8 ∷ to_net 0x03000000 8 ∷ [];
  visible = 1 ∷ 2 ∷ 3 ∷ [];
}

-- a cable from the port 9 of a switch to a port of the fourth
abbrev pub to_middle : ℕ → ℕ → Cable
to_middle switch port = record { one = spot switch 9; other = spot 3 port }

-- three switches with outside ports, each with a cable to the fourth, which has none
abbrev pub star_wiring : Wiring
star_wiring = record {
  outside = lies 1 0 1 ∷ lies 2 1 1 ∷ lies 3 2 1 ∷ lies 4 2 2 ∷ [];
  cables = to_middle 0 1 ∷ to_middle 1 2 ∷ to_middle 2 3 ∷ [];
  next_hops =
      hop 0 1 9 ∷ hop 0 2 9 ∷ hop 1 0 9 ∷ hop 1 2 9 ∷ hop 2 0 9 ∷ hop 2 1 9 ∷ hop 3 0 1 ∷ hop 3 1 2 ∷ hop 3 2 3 ∷ [];
}

-- a switch that is up
abbrev pub with_ports : List ℕ → PhysicalSwitch
with_ports ports = record { ports = ports; up = true }

-- one virtual switch over all four: `teller + (balancer >> router)`
abbrev pub over_four : VirtualSwitch
over_four = record {
  expr = parallel (member 0) (sequential (member 1) (member 2));
  outside = 1 ∷ 2 ∷ 3 ∷ 4 ∷ [];
  links = [];
  spread = true;
  whole = false;
}

abbrev pub star : Setting
star = record {
  network = record { tables = teller ∷ second_balancer ∷ flooder ∷ []; switches = over_four ∷ [] };
  hops = 4;
  wiring = star_wiring;
  switches = map with_ports ((1 ∷ 9 ∷ []) ∷ (1 ∷ 9 ∷ []) ∷ (1 ∷ 2 ∷ 9 ∷ []) ∷ (1 ∷ 2 ∷ 3 ∷ []) ∷ []);
}

-- untagged packets by a port, those of them to the balancer's address, and DNS queries there
abbrev pub coming : ℕ → MatchOf
coming p = by_tag p 65535

abbrev pub coming_to : ℕ → MatchOf
coming_to p = record (coming p) { dl_type = Some 0x0800; nw_dst = Some (record { addr = 0x01020304; len = 32 }) }

abbrev pub coming_queries : ℕ → MatchOf
coming_queries p = record (coming_to p) { nw_proto = Some 17; tp_dst = Some 53 }

-- an entry of a table
abbrev pub row : MatchOf → ℕ → List Action → FlowEntry
row m priority actions = record { m = m; priority = priority; actions = actions }

-- the copy for who is told
abbrev pub copy : Action
copy = Output 0xfffd 65535

-- to the server over the cable, with the tag of one port, or of one after the other
abbrev pub by_one : ℕ → List Action
by_one t = SetNwDst 0x02000001 ∷ SetVlanVid t ∷ Output 9 0 ∷ []

abbrev pub by_both : ℕ → ℕ → List Action
by_both t u = SetNwDst 0x02000001 ∷ SetVlanVid t ∷ Output 9 0 ∷ SetVlanVid u ∷ Output 9 0 ∷ []

-- the rows of a port that the router sees: five without the teller's entry and, but for one whose key is taken, five
-- with it
abbrev pub rows : List Action → List Action → List FlowEntry
rows routing flooding =
    row (coming 1) 10 [] ∷ row (coming_to 1) 34 [] ∷ row (coming_to 1) 35 (copy ∷ [])
    ∷ row (coming_to 1) 38 routing ∷ row (coming_queries 1) 40 flooding
    ∷ row (coming 1) 13 (copy ∷ []) ∷ row (coming_to 1) 37 (copy ∷ [])
    ∷ row (coming_to 1) 41 (copy ∷ routing) ∷ row (coming_queries 1) 43 (copy ∷ flooding) ∷ []

-- the rows of the hidden port
abbrev pub hidden_rows : List FlowEntry
hidden_rows =
    row (coming 2) 10 [] ∷ row (coming_to 2) 34 []
    ∷ row (coming 2) 13 (copy ∷ []) ∷ row (coming_to 2) 37 (copy ∷ []) ∷ []

-- the guard of a port, and what comes to it over the cable with its tag
abbrev pub guarding : ℕ → FlowEntry
guarding p = row (at_port p) 0 []

abbrev pub arriving : ℕ → ℕ → FlowEntry
arriving tag p = row (by_tag 9 tag) 65535 (StripVlan ∷ Output p 0 ∷ [])

-- the tables of the three switches: nothing is sent back to the port by which it came
abbrev pub FirstOfStar : Type 0
FirstOfStar = table_of star 0 ≡ rows (by_one 2) (by_both 2 3) ++ guarding 1 ∷ arriving 1 1 ∷ []

abbrev pub SecondOfStar : Type 0
SecondOfStar = table_of star 1 ≡ rows [] (by_both 1 3) ++ guarding 1 ∷ arriving 2 1 ∷ []

abbrev pub ThirdOfStar : Type 0
ThirdOfStar =
    table_of star 2
    ≡ rows (by_one 2) (by_both 1 2) ++ hidden_rows ++ guarding 1 ∷ guarding 2 ∷ arriving 3 1 ∷ arriving 4 2 ∷ []

-- the switch between: what comes by a port with the tag of another switch's goes on there
abbrev pub onward : ℕ → ℕ → ℕ → FlowEntry
onward by tag port = row (by_tag by tag) 65535 (Output port 0 ∷ [])

abbrev pub BetweenInStar : Type 0
BetweenInStar =
    table_of star 3
    ≡ onward 2 1 1 ∷ onward 3 1 1 ∷ onward 1 2 2 ∷ onward 3 2 2
    ∷ onward 1 3 3 ∷ onward 2 3 3 ∷ onward 1 4 3 ∷ onward 2 4 3 ∷ []

-- a DNS query to the balancer's address, and the same to the server, as it came to a switch
abbrev pub query : HeaderOf
query = packet_to 0x01020304

abbrev pub answered_by : ℕ → ℕ → Left
answered_by switch in_port = record { at = spot switch 1; header = record (packet_to 0x02000001) { in_port = in_port } }

-- the teller is told, and the query leaves for the server at ports 2 and 3, at the second and the third switch
abbrev pub sees : ℕ → Seen
sees in_port = record {
  outs = answered_by 1 in_port ∷ answered_by 2 in_port ∷ [];
  copies = record { switch = 0; header = query } ∷ [];
}

-- so says the policy
abbrev pub StarIsSeen : Type 0
StarIsSeen = expected star_wiring (spot 0 1) query (walk (ground_of star.network) star.hops 0 query) ≡ sees 1

-- and so do the switches, whichever way they read priorities
abbrev pub star_follows : Reading → Seen
star_follows reading = follow star_wiring (chosen (map (table_of star) (0 ∷ 1 ∷ 2 ∷ 3 ∷ [])) reading) 5 [] 0 query

abbrev pub StarIsFollowed : Type 0
StarIsFollowed = (star_follows ExactFirst ≡ sees 9) × (star_follows PriorityAlone ≡ sees 9)

-- all that the law asks is so
abbrev pub StarIsSound : Type 0
StarIsSound = IsSoundSetting star

-- the law speaks of it
abbrev pub StarAgrees : Type 0
StarAgrees = (tables : ℕ → List FlowEntry) → AreInstalled star tables → Agree star tables
