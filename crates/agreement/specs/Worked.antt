-- Small policies: the tables that switches are to have, computed, and what is to be seen of packets.
use Rattle.std.specs.Prelude.{◌≡◌, ℕ, Bool, ◌+◌, ◌*◌, true, false, Some, None, List, [], ◌∷◌}
use Rattle.of10_match.specs.Fields.{HeaderOf, MatchOf}
use Rattle.of10_match.specs.Matching.{at_port, everything}
use Rattle.of10_actions.specs.declared.action.Action.{Action}
use Rattle.of10_actions.specs.declared.action.Action.TheVariants.{Output, SetVlanVid, StripVlan}
use Rattle.policy_expr.specs.Policy.{member}
use Rattle.policy_meaning.specs.Networks.{ground_of}
use Rattle.policy_meaning.specs.Walk.{walk}
use Rattle.policy_meaning.specs.WorkedHops.{split_switch}
use Rattle.policy_meaning.specs.WorkedTables.{packet_to, server_router}
use Rattle.switch_meaning.specs.WorkedEntries.{one_switch}
use Rattle.switch_meaning.specs.WorkedFlood.{by_tag, hop, lies, spot}
use Rattle.switch_meaning.specs.declared.entry.FlowEntry.{FlowEntry}
use Rattle.switch_meaning.specs.declared.fired.Seen.{Seen}
use Rattle.switch_meaning.specs.declared.wiring.Outside.{Outside}
use Rattle.switch_meaning.specs.declared.wiring.Wiring.{Wiring}
use Rattle.agreement.specs.declared.state.Setting.{Setting}
use Rattle.agreement.specs.Agree.{Agree, AreInstalled}
use Rattle.agreement.specs.Entries.{table_of}
use Rattle.agreement.specs.Premises.{IsSoundSetting}
use Rattle.agreement.specs.Seeing.{expected}

abbrev pub four_ports : List ℕ
four_ports = 1 ∷ 2 ∷ 3 ∷ 4 ∷ []

-- one virtual switch that has the ports 1 to 4 of a switch with five, and one member, a router: its one entry sends
-- packets to 2.0.0.0/24 to port 1, and it is told of all other packets
abbrev pub routed : Bool → Setting
routed whole = record {
  network = record {
    tables = record server_router { member = 0 } ∷ [];
    switches = record { expr = member 0; outside = four_ports; links = []; spread = false; whole = whole } ∷ [];
  };
  hops = 4;
  wiring = one_switch;
  switches = record { ports = 1 ∷ 2 ∷ 3 ∷ 4 ∷ 5 ∷ []; up = true } ∷ [];
}

-- packets to 2.0.0.0/24 among those of a match
abbrev pub to_servers : MatchOf → MatchOf
to_servers m = record m { dl_type = Some 0x0800; nw_dst = Some (record { addr = 0x02000000; len = 24 }) }

-- the entry of a miss, and the router's
abbrev pub missing : MatchOf → FlowEntry
missing m = record { m = m; priority = 2; actions = Output 0xfffd 65535 ∷ [] }

abbrev pub routing : MatchOf → List Action → FlowEntry
routing m actions = record { m = to_servers m; priority = 5; actions = actions }

-- for each port both entries, of which the router's sends nothing back
abbrev pub EachPortHasEntries : Type 0
EachPortHasEntries =
    table_of (routed false) 0
    ≡ missing (at_port 1) ∷ routing (at_port 1) [] ∷ missing (at_port 2) ∷ routing (at_port 2) (Output 1 0 ∷ [])
    ∷ missing (at_port 3) ∷ routing (at_port 3) (Output 1 0 ∷ []) ∷ missing (at_port 4)
    ∷ routing (at_port 4) (Output 1 0 ∷ []) ∷ []

-- where the virtual switch is whole, both entries once, and one that drops what comes by the fifth port
abbrev pub AllPortsHaveEntries : Type 0
AllPortsHaveEntries =
    table_of (routed true) 0 ≡ missing everything ∷ routing everything (Output 1 0 ∷ [])
    ∷ record { m = at_port 5; priority = 65535; actions = [] } ∷ []

abbrev pub comes_to : ℕ → ℕ → HeaderOf
comes_to p address = record (packet_to address) { in_port = p }

-- what is to be seen of a packet that comes by a port
abbrev pub to_see : ℕ → ℕ → Seen
to_see p address = expected one_switch (spot 0 p) (comes_to p address)
    (walk (ground_of (routed false).network) 4 0 (comes_to p address))

-- to 2.0.0.1 it leaves by port 1, unless it came by it; of another there is a copy
abbrev pub RouterIsSeen : Type 0
RouterIsSeen =
    (to_see 2 0x02000001 ≡ record { outs = record { at = spot 0 1; header = comes_to 2 0x02000001 } ∷ []; copies = [] })
    × (to_see 1 0x02000001 ≡ record { outs = []; copies = [] })
    × (to_see 3 0x01020304 ≡ record { outs = []; copies = record { switch = 0; header = comes_to 3 0x01020304 } ∷ [] })

-- all that the law asks is so
abbrev pub RouterIsSound : Type 0
RouterIsSound = (whole : Bool) → IsSoundSetting (routed whole)

-- whatever tables have these entries agree with the policy
abbrev pub RouterAgrees : Type 0
RouterAgrees = (whole : Bool) (tables : ℕ → List FlowEntry) → AreInstalled (routed whole) tables
    → Agree (routed whole) tables

-- two virtual switches that split the switch by links, as the worked walks have them: the first has its ports 1 and 2,
-- the second 3 and 4
abbrev pub split_port : ℕ → ℕ → Outside
split_port v p = record { v = v; port = p; at = spot 0 (2 * v + p); tag = None }

abbrev pub split : Setting
split = record {
  network = split_switch 8 true;
  hops = 4;
  wiring = record {
    outside = split_port 0 1 ∷ split_port 0 2 ∷ split_port 1 1 ∷ split_port 1 2 ∷ [];
    cables = [];
    next_hops = [];
  };
  switches = record { ports = four_ports; up = true } ∷ [];
}

-- what comes by port 1 leaves there after three hops
abbrev pub SplitIsSeen : Type 0
SplitIsSeen =
    expected split.wiring (spot 0 1) (packet_to 0x0a000001)
    (walk (ground_of split.network) split.hops 0 (packet_to 0x0a000001))
    ≡ record { outs = record { at = spot 0 1; header = packet_to 0x0a000001 } ∷ []; copies = [] }

-- all that the law asks is so
abbrev pub SplitIsSound : Type 0
SplitIsSound = IsSoundSetting split

-- the law speaks of it too
abbrev pub SplitAgrees : Type 0
SplitAgrees = (tables : ℕ → List FlowEntry) → AreInstalled split tables → Agree split tables

-- one virtual switch that is spread over two switches with a cable: its port 1 is at the first, its port 2 at the
-- second
abbrev pub two_switches : Wiring
two_switches = record {
  outside = lies 1 0 1 ∷ lies 2 1 1 ∷ [];
  cables = record { one = spot 0 3; other = spot 1 3 } ∷ [];
  next_hops = hop 0 1 3 ∷ hop 1 0 3 ∷ [];
}

abbrev pub spread_out : Setting
spread_out = record {
  network = record {
    tables = record server_router { member = 0; visible = 1 ∷ 2 ∷ [] } ∷ [];
    switches = record { expr = member 0; outside = 1 ∷ 2 ∷ []; links = []; spread = true; whole = false } ∷ [];
  };
  hops = 4;
  wiring = two_switches;
  switches = record { ports = 1 ∷ 3 ∷ []; up = true } ∷ record { ports = 1 ∷ 3 ∷ []; up = true } ∷ [];
}

-- the router's entry sends packets by the cable with a tag; besides there are a guard and an entry for what comes to
-- the other port
abbrev pub SecondIsInstalled : Type 0
SecondIsInstalled =
    table_of spread_out 1
    ≡ missing (by_tag 1 65535) ∷ routing (by_tag 1 65535) (SetVlanVid 1 ∷ Output 3 0 ∷ [])
    ∷ record { m = at_port 1; priority = 0; actions = [] }
    ∷ record { m = by_tag 3 2; priority = 65535; actions = StripVlan ∷ Output 1 0 ∷ [] } ∷ []

-- all that the law asks is so
abbrev pub SpreadIsSound : Type 0
SpreadIsSound = IsSoundSetting spread_out

-- the law speaks of it
abbrev pub SpreadAgrees : Type 0
SpreadAgrees = (tables : ℕ → List FlowEntry) → AreInstalled spread_out tables → Agree spread_out tables
