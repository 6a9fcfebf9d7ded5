-- FLOOD over three switches, computed.
use Rattle.std.specs.Prelude.{◌≡◌, ℕ, true, false, Some, List, [], ◌∷◌, map, if◌then◌else◌, ◌==◌, find}
use Rattle.of10_match.specs.Fields.{HeaderOf, MatchOf}
use Rattle.of10_match.specs.Matching.{at_port, everything, holds}
use Rattle.of10_actions.specs.Rewriting.{no_rewrite}
use Rattle.of10_actions.specs.declared.action.Action.{Action}
use Rattle.of10_actions.specs.declared.action.Action.TheVariants.{Output, SetVlanVid, StripVlan}
use Rattle.of10_actions.specs.declared.effects.Dest.TheVariants.{Flood}
use Rattle.switch_meaning.specs.Firing.{fire}
use Rattle.switch_meaning.specs.Fixed.{drops, guards, transits}
use Rattle.switch_meaning.specs.Following.{follow}
use Rattle.switch_meaning.specs.Keys.{flow_of}
use Rattle.switch_meaning.specs.Placing.{entry_of}
use Rattle.switch_meaning.specs.declared.entry.FlatRule.{FlatRule}
use Rattle.switch_meaning.specs.declared.entry.FlowEntry.{FlowEntry}
use Rattle.switch_meaning.specs.declared.entry.PhysEntry.{PhysEntry}
use Rattle.switch_meaning.specs.declared.entry.Site.{Site}
use Rattle.switch_meaning.specs.declared.fired.Left.{Left}
use Rattle.switch_meaning.specs.declared.fired.Sent.{Sent}
use Rattle.switch_meaning.specs.declared.wiring.SwitchPort.{SwitchPort}
use Rattle.switch_meaning.specs.declared.wiring.NextHop.{NextHop}
use Rattle.switch_meaning.specs.declared.wiring.Outside.{Outside}
use Rattle.switch_meaning.specs.declared.wiring.Wiring.{Wiring}

-- a port of a physical switch
abbrev pub spot : ℕ → ℕ → SwitchPort
spot switch port = record { switch = switch; port = port }

-- an outside port of the one virtual switch, with a tag
abbrev pub lies : ℕ → ℕ → ℕ → Outside
lies port switch at = record { v = 0; port = port; at = spot switch at; tag = Some port }

-- packets for the second switch leave the first by this port
abbrev pub hop : ℕ → ℕ → ℕ → NextHop
hop from to port = record { from = from; to = to; port = port }

-- three switches in a row: the first has the outside ports 1 and 3, the second has 2, the third has 4
abbrev pub in_a_row : Wiring
in_a_row = record {
  outside = lies 1 0 1 ∷ lies 2 1 1 ∷ lies 3 0 2 ∷ lies 4 2 1 ∷ [];
  cables = record { one = spot 0 3; other = spot 1 3 } ∷ record { one = spot 1 4; other = spot 2 3 } ∷ [];
  next_hops = hop 0 1 3 ∷ hop 0 2 3 ∷ hop 1 0 3 ∷ hop 1 2 4 ∷ hop 2 0 3 ∷ hop 2 1 3 ∷ [];
}

-- the virtual switch, at its first switch
abbrev pub first_site : Site
first_site = record { v = 0; switch = 0; spread = true; whole = false }

-- packets that come by a port with a tag
abbrev pub by_tag : ℕ → ℕ → MatchOf
by_tag p tag = record everything { in_port = Some p; dl_vlan = Some tag }

-- what comes by the virtual port 1 is sent to each other one
abbrev pub flooding : FlatRule
flooding = record {
  m = at_port 1;
  level = 128;
  outs = map (λ p. record { rewrite = no_rewrite; dest = Flood 0 p }) (2 ∷ 3 ∷ 4 ∷ []);
  ancestry = record { member = 0; kind = 3 } ∷ [];
}

-- its actions at the first switch
abbrev pub flooding_actions : List Action
flooding_actions = SetVlanVid 2 ∷ Output 3 0 ∷ StripVlan ∷ Output 2 0 ∷ SetVlanVid 4 ∷ Output 3 0 ∷ []

-- it is put on the first switch with these actions
abbrev pub FloodIsPlaced : Type 0
FloodIsPlaced =
    entry_of in_a_row first_site flooding
    ≡ Some (record {
      m = by_tag 1 65535;
      priority = 129;
      actions = flooding_actions;
      ancestry = record { member = 0; kind = 3 } ∷ [];
    })

-- an entry without ancestry
abbrev pub fixed : MatchOf → ℕ → List Action → PhysEntry
fixed m priority actions = record { m = m; priority = priority; actions = actions; ancestry = [] }

-- sent on to the next switch
abbrev pub onward : ℕ → ℕ → ℕ → PhysEntry
onward in_port tag port = fixed (by_tag in_port tag) 65535 (Output port 0 ∷ [])

-- sent out at the goal, without its tag
abbrev pub at_goal : ℕ → ℕ → ℕ → PhysEntry
at_goal in_port tag port = fixed (by_tag in_port tag) 65535 (StripVlan ∷ Output port 0 ∷ [])

-- the fixed entries of the three switches
abbrev pub TagsAreCarried : Type 0
TagsAreCarried =
    (map (guards in_a_row) (0 ∷ 1 ∷ 2 ∷ []) ≡ (fixed (at_port 1) 0 [] ∷ fixed (at_port 2) 0 [] ∷ [])
    ∷ (fixed (at_port 1) 0 [] ∷ []) ∷ (fixed (at_port 1) 0 [] ∷ []) ∷ [])
    × (transits in_a_row 0 ≡ at_goal 3 1 1 ∷ at_goal 3 3 2 ∷ [])
    × (transits in_a_row 1 ≡ onward 4 1 3 ∷ at_goal 3 2 1 ∷ at_goal 4 2 1 ∷ onward 4 3 3 ∷ onward 3 4 4 ∷ [])
    × (transits in_a_row 2 ≡ at_goal 3 4 1 ∷ [])

-- of the four ports of the first switch two are no outside ports
abbrev pub OthersAreDropped : Type 0
OthersAreDropped = drops in_a_row 0 (1 ∷ 2 ∷ 3 ∷ 4 ∷ []) ≡ fixed (at_port 3) 65535 [] ∷ fixed (at_port 4) 65535 [] ∷ []

-- the tables of the three switches
abbrev pub tables_in_a_row : ℕ → List FlowEntry
tables_in_a_row switch = if switch == 0 then record { m = by_tag 1 65535; priority = 129; actions = flooding_actions }
    ∷ map flow_of (transits in_a_row 0) else map flow_of (transits in_a_row switch)

-- a packet without a tag
abbrev pub ping : ℕ → HeaderOf
ping in_port = record {
  in_port = in_port;
  dl_src = 1;
  dl_dst = 2;
  dl_vlan = 65535;
  dl_vlan_pcp = 0;
  dl_type = 0x0800;
  nw_tos = 0;
  nw_proto = 1;
  nw_src = 3;
  nw_dst = 4;
  tp_src = 8;
  tp_dst = 0;
}

-- it is sent out at a port of the first switch, with a tag or with none
abbrev pub sent_with : ℕ → ℕ → Sent
sent_with port vlan = record { port = port; header = record (ping 1) { dl_vlan = vlan } }

-- the first switch sends it to its own port without a tag, and twice to the second switch
abbrev pub FloodIsFired : Type 0
FloodIsFired = fire flooding_actions (ping 1)
    ≡ record { outs = sent_with 3 2 ∷ sent_with 2 65535 ∷ sent_with 3 4 ∷ []; copies = [] }

-- it leaves the network at a port, as it came to that switch
abbrev pub out_by : ℕ → ℕ → ℕ → Left
out_by switch port in_port = record { at = spot switch port; header = ping in_port }

-- over two cables it comes to every other port, once; over one it does not come to the third switch
abbrev pub FloodIsFollowed : Type 0
FloodIsFollowed =
    (follow in_a_row (λ way s h. find (λ e. holds e.m h) (tables_in_a_row s)) 4 [] 0 (ping 1)
    ≡ record { outs = out_by 1 1 3 ∷ out_by 0 2 1 ∷ out_by 2 1 3 ∷ []; copies = [] })
    × (follow in_a_row (λ way s h. find (λ e. holds e.m h) (tables_in_a_row s)) 2 [] 0 (ping 1)
    ≡ record { outs = out_by 1 1 3 ∷ out_by 0 2 1 ∷ []; copies = [] })
