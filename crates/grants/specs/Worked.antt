-- What the rows give in examples: an operator's grants, and messages of members.
use Rattle.std.specs.Prelude.{◌≡◌, ℕ, List, [], ◌∷◌, true, false, Option, Some, None}
use Rattle.of10_match.specs.Fields.{HeaderOf, MatchOf}
use Rattle.of10_match.specs.Matching.{everything}
use Rattle.of10_match.specs.Wildcards.{match_bytes}
use Rattle.of10_actions.specs.declared.action.Action.{Action}
use Rattle.of10_actions.specs.declared.action.Action.TheVariants.{Output, SetDlSrc, SetVlanVid}
use Rattle.of10_actions.specs.declared.effects.PortView.{PortView}
use Rattle.of10_msgs.specs.declared.message.FlowMod.{FlowMod}
use Rattle.of10_msgs.specs.declared.message.PacketOut.{PacketOut}
use Rattle.grants.specs.Denials.{denial_of}
use Rattle.grants.specs.Ports.{sees_all}
use Rattle.grants.specs.Rows.{flow_denial, kind_row, out_denial}
use Rattle.grants.specs.declared.denial.Detail.{Detail}
use Rattle.grants.specs.declared.denial.Detail.TheVariants.{G1, G2Emerg, G2Kind, G3, G4, G5, G6, G7, G8, G9, G10, G11}
use Rattle.grants.specs.declared.denial.Why.TheVariants.{Grant as NotGranted, Port, Region}
use Rattle.grants.specs.declared.denial.Denial.{Denial}
use Rattle.grants.specs.declared.grant.Grant.{Grant}

-- four ports
abbrev pub four : PortView
four = record { v = 0; outside = 1 ∷ 2 ∷ 3 ∷ 4 ∷ []; links = [] }

-- two ports and a link port
abbrev pub linked : PortView
linked = record { v = 0; outside = 1 ∷ 2 ∷ []; links = 9 ∷ [] }

-- all fields but dl_vlan_pcp, addresses up to 24 bits, outputs, everywhere
abbrev pub plain : Grant
plain = record {
  fields = 0xfef;
  src_max = 24;
  dst_max = 24;
  actions = 1;
  ports = four;
  regions = everything ∷ [];
  misses = true;
  packet_out = false;
}

-- the same, with passes and links
abbrev pub passing : Grant
passing = record plain { actions = 0xd; ports = linked }

-- IPv4 packets to a net
abbrev pub to_net : ℕ → ℕ → MatchOf
to_net addr len = record everything { dl_type = Some 0x0800; nw_dst = Some (record { addr = addr; len = len }) }

-- what is granted where two nets are the region
abbrev pub two_boxes : Grant
two_boxes = record plain { regions = to_net 0x0a000000 24 ∷ to_net 0x0a000200 24 ∷ [] }

abbrev pub entry : MatchOf → List Action → FlowMod
entry m actions = record {
  m = match_bytes m;
  cookie = 0;
  command = 0;
  idle_timeout = 0;
  hard_timeout = 0;
  priority = 100;
  buffer_id = 0xffffffff;
  out_port = 65535;
  flags = 0;
  actions = actions;
}

abbrev pub to : ℕ → Action
to port = Output port 0

-- an entry is let through, or a rule refuses it
abbrev pub Lets : Grant → FlowMod → Type 0
Lets g m = flow_denial g g.ports m ≡ None

abbrev pub Refuses : Grant → FlowMod → Detail → Type 0
Refuses g m detail = flow_denial g g.ports m ≡ Some (denial_of detail)

-- what is asked for before the match is looked at; a DELETE may be anything
pub record CommandsFirst : Type 0 where
  pub fifth : Refuses plain (record (entry everything []) { command = 5 }) (G1 5)
  pub emergency : Refuses plain (record (entry everything []) { flags = 4; buffer_id = 7 }) G2Emerg
  pub buffer : Refuses plain (record (entry everything (to 9 ∷ [])) { buffer_id = 7 }) (G3 7)
  pub delete : Lets plain (record (entry everything (to 9 ∷ [])) { command = 3; flags = 4; buffer_id = 7 })

-- a prefix of 24 bits is granted and one of 25 isn't; a field that isn't granted is the first that is named so
pub record FieldsAreGranted : Type 0 where
  pub whole : Lets plain (entry (to_net 0x0a000000 24) (to 1 ∷ []))
  pub longer : Refuses plain (entry (to_net 0x0a000000 25) (to 1 ∷ [])) (G4 9)
  pub port : Refuses (record plain { fields = 0x7ff })
      (entry (record everything { dl_type = Some 0x0800; nw_proto = Some 6; tp_dst = Some 80 }) []) (G4 11)
  pub tag : Refuses plain (entry (record everything { dl_vlan = Some 5; dl_vlan_pcp = Some 3; in_port = Some 9 }) [])
      (G4 4)

-- a match of sources meets both boxes, one of destinations between them none; a port that isn't there
pub record RegionsAreMet : Type 0 where
  pub source : Lets two_boxes
      (entry (record everything { dl_type = Some 0x0800; nw_src = Some (record { addr = 0x0a000100; len = 24 }) })
      (to 1 ∷ []))
  pub second : Lets two_boxes (entry (to_net 0x0a000200 24) (to 1 ∷ []))
  pub between : Refuses two_boxes (entry (to_net 0x0a000100 24) (to 1 ∷ [])) G5
  pub port : Refuses plain (entry (record everything { in_port = Some 5 }) []) (G6 5)

-- kinds come before ports, ports before the place of a pass, and that before the count
pub record ActionsInOrder : Type 0 where
  pub kinds : Refuses plain (entry everything (to 9 ∷ SetDlSrc 1 ∷ [])) (G7 4)
  pub tags : Refuses (record plain { actions = 0x7ff }) (entry everything (SetVlanVid 5 ∷ [])) (G7 1)
  pub member : Refuses plain (entry everything (to 0xfffd ∷ [])) (G7 0)
  pub ports : Refuses passing (entry everything (to 0xfffa ∷ to 3 ∷ [])) (G8 3)
  pub ingress : Refuses passing (entry everything (to 0xfff8 ∷ [])) (G8 0xfff8)
  pub alone : Lets plain (entry everything (to 0xfff8 ∷ []))
  pub table : Refuses plain (entry everything (to 0xfff9 ∷ [])) (G8 0xfff9)
  pub local : Refuses plain (entry everything (to 0xfffe ∷ [])) (G8 0xfffe)
  pub pass : Refuses passing (entry everything (to 0xfffa ∷ to 1 ∷ [])) (G9 0)
  pub link : Refuses passing (entry everything (to 1 ∷ to 9 ∷ to 1 ∷ [])) (G9 1)
  pub last : Lets passing (entry everything (to 1 ∷ to 9 ∷ []))

-- FLOOD counts as the four ports, and as one where there is none
abbrev pub floods : List Action
floods = to 0xfffb ∷ to 0xfffb ∷ to 0xfffb ∷ to 0xfffb ∷ to 0xfffb ∷ to 0xfffb ∷ to 0xfffb ∷ to 0xfffb ∷ to 0xfffb
    ∷ to 0xfffb ∷ to 0xfffb ∷ to 0xfffb ∷ to 0xfffb ∷ to 0xfffb ∷ to 0xfffb ∷ to 0xfffb ∷ []

pub record FloodsAreCounted : Type 0 where
  pub most : Lets plain (entry everything floods)
  pub one_more : Refuses plain (entry everything (to 1 ∷ floods)) (G10 65)
  pub none : Lets (record plain { ports = record { v = 0; outside = []; links = [] } })
      (entry everything (to 0xfffb ∷ floods))

-- an IPv4 packet to an address
abbrev pub packet : ℕ → HeaderOf
packet addr = record {
  in_port = 1;
  dl_src = 1;
  dl_dst = 2;
  dl_vlan = 65535;
  dl_vlan_pcp = 0;
  dl_type = 0x0800;
  nw_tos = 0;
  nw_proto = 6;
  nw_src = 5;
  nw_dst = addr;
  tp_src = 1;
  tp_dst = 80;
}

abbrev pub send : ℕ → ℕ → PacketOut
send in_port port = record { buffer_id = 0xffffffff; in_port = in_port; actions = to port ∷ []; bytes = [] }

abbrev pub sender : Grant
sender = record two_boxes { packet_out = true; actions = 5 }

abbrev pub Sends : Grant → PacketOut → HeaderOf → Option Denial → Type 0
Sends g m h denied = out_denial g g.ports m h ≡ denied

-- what of a packet isn't granted, the grant first, then the port, then the region
pub record PacketsAreGranted : Type 0 where
  pub grant : Sends plain (send 0xffff 0xfffb) (packet 0) (Some (denial_of (G11 NotGranted)))
  pub port : Sends sender (send 5 1) (packet 0x0a000001) (Some (denial_of (G11 Port)))
  pub no_port : Sends sender (send 0xffff 0xfff9) (packet 0x0a000001) (Some (denial_of (G11 Port)))
  pub region : Sends sender (send 0xffff 1) (packet 0x0a000101) (Some (denial_of (G11 Region)))
  pub inside : Sends sender (send 1 0xfff9) (packet 0x0a000201) None
  pub pass : Sends sender (send 1 0xfffa) (packet 0x0a000201) (Some (denial_of (G8 0xfffa)))

-- PORT_MOD and queues aren't served
pub record KindsAreServed : Type 0 where
  pub port_mod : kind_row 15 ≡ Some (denial_of (G2Kind 15))
  pub queues : kind_row 20 ≡ Some (denial_of (G2Kind 20))
  pub flow_mod : kind_row 14 ≡ None
  pub all : sees_all plain four ≡ true
  pub fewer : sees_all (record plain { ports = linked }) four ≡ false
