-- What members are sent and what the audit is told, in examples; bytes are written in hexadecimal digits.
use Rattle.std.specs.Prelude.{◌≡◌, refl, ℕ, true, false, List, [], ◌∷◌, ◌++◌, Option, Some, None, codes, replicate}
use Rattle.std.specs.Fmt.{digits}
use Rattle.hex.specs.Hex.{encode_lower, encode_with}
use Rattle.of10_match.specs.Matching.{everything}
use Rattle.of10_match.specs.Wildcards.{normal_of}
use Rattle.of10_actions.specs.declared.action.Action.TheVariants.{Output}
use Rattle.of10_actions.specs.declared.effects.PortView.{PortView}
use Rattle.of10_msgs.specs.Spelling.{body_bytes, port_bytes, spelling}
use Rattle.of10_msgs.specs.declared.message.Body.{Body}
use Rattle.of10_msgs.specs.declared.message.Body.TheVariants.{BarrierReply}
use Rattle.script_text.specs.declared.audit.DownCause.TheVariants.{Removal}
use Rattle.grants.specs.Denials.{denial_of}
use Rattle.grants.specs.declared.denial.Detail.TheVariants.{Form, G2Emerg, G4, G5, G8, G11, Overlap, Budget}
use Rattle.grants.specs.declared.denial.Why.TheVariants.{Region}
use Rattle.grants.specs.declared.grant.Grant.{Grant}
use Rattle.member_table.specs.declared.entry.Entry.{Entry}
use Rattle.member_replies.specs.Audit.{down_line, note_line, policy_line, slow_line}
use Rattle.member_replies.specs.Packets.{flow_removed, packet_in, seconds_of}
use Rattle.member_replies.specs.Ports.{visible}
use Rattle.member_replies.specs.Refusals.{deny_line, refusal}
use Rattle.member_replies.specs.Switches.{config, echo, features, port_changed}

-- a message in digits
abbrev pub sent : ℕ → Body → List ℕ
sent xid body = encode_lower (spelling (record { xid = xid; body = body }))

-- two outside ports, and two link ports about the second
abbrev pub linked : PortView
linked = record { v = 1; outside = 1 ∷ 8 ∷ []; links = 3 ∷ 9 ∷ [] }

-- outputs, and sets of the destination by IP
abbrev pub grant : Grant
grant = record {
  fields = 0xfff;
  src_max = 32;
  dst_max = 32;
  actions = 0x81;
  ports = linked;
  regions = everything ∷ [];
  misses = true;
  packet_out = false;
}

-- the FEATURES_REPLY has the visible ports by number; port 8 is dark; OUTPUT is bit 0 and SET_NW_DST is bit 7
pub record FeaturesAreShown : Type 0 where
  pub ports : visible linked ≡ 1 ∷ 3 ∷ 8 ∷ 9 ∷ []
  pub message : sent 5 (features 0xa1 (record grant { ports = record linked { links = 3 ∷ [] } }) 1 (8 ∷ []))
      ≡ codes "010600b00000000500000000000000a100000000010000000000008700000081"
      ++ (codes "000102000001000170310000000000000000000000000000000000000000000000000000000000000000000000000000"
      ++ (codes "000302000001000370330000000000000000000000000000000000100000000000000000000000000000000000000000"
      ++ codes "000802000001000870380000000000000000000000000000000000000000000100000000000000000000000000000000"))

-- a port that goes dark; what was configured; an echo; a barrier
pub record AnswersAreGiven : Type 0 where
  pub dark : sent 0 (port_changed 0 12 false true)
      ≡ codes "010c00400000000002000000000000"
      ++ (codes "00000c02000000000c703132000000000000000000000000000000000000000001" ++ replicate 32 48)
  pub config : sent 7 (config 0 128) ≡ codes "0108000c0000000700000080"
  pub echo : sent 0x01020304 (echo (0xab ∷ 0xcd ∷ [])) ≡ codes "0103000a01020304abcd"
  pub barrier : sent 0xffffffff BarrierReply ≡ codes "01130008ffffffff"

-- a packet of UDP from 10.0.0.1 to 2.0.0.1, of 42 bytes
abbrev pub packet : List ℕ
packet = 0 ∷ 0 ∷ 0 ∷ 0 ∷ 0 ∷ 2 ∷ 0 ∷ 0 ∷ 0 ∷ 0 ∷ 0 ∷ 1 ∷ 8 ∷ 0
    ∷ 0x45 ∷ 0 ∷ 0 ∷ 0x1c ∷ 0 ∷ 0 ∷ 0 ∷ 0 ∷ 0x40 ∷ 0x11 ∷ 0x6e ∷ 0xd0 ∷ 10 ∷ 0 ∷ 0 ∷ 1 ∷ 2 ∷ 0 ∷ 0 ∷ 1
    ∷ 0x13 ∷ 0x88 ∷ 0 ∷ 0x35 ∷ 0 ∷ 8 ∷ 0xe0 ∷ 0x1f ∷ []

abbrev pub APacketIsTold : Type 0
APacketIsTold = sent 0 (packet_in 42 1 0 packet)
    ≡ codes "010a003c00000000ffffffff002a00010000" ++ codes
    "00000000000200000000000108004500001c0000000040116ed00a00000102000001138800350008e01f"

-- IPv4 to 10.0.0.1 by port 1, as it was sent: its padding isn't zero
abbrev pub raw : List ℕ
raw = 0 ∷ 0x30 ∷ 0x20 ∷ 0xee ∷ 0 ∷ 1
    ∷ (replicate 15 0 ++ (7 ∷ 8 ∷ 0 ∷ 0 ∷ 0 ∷ 9 ∷ 9 ∷ 0 ∷ 0 ∷ 0 ∷ 0 ∷ 10 ∷ 0 ∷ 0 ∷ 1 ∷ 0 ∷ 0 ∷ 0 ∷ 0 ∷ []))

-- its match in digits, with zeros for the padding
abbrev pub raw_text : List ℕ
raw_text = codes "003020ee0001000000000000000000000000" ++ codes "00000000080000000000000000000a00000100000000"

-- an entry that leaves by port 2
abbrev pub entry : Entry
entry = record {
  serial = 3;
  raw = raw;
  normal = normal_of raw;
  priority = 0x8000;
  rank = 0x8000;
  cookie = 0x1122334455667788;
  idle = 60;
  hard = 0;
  flags = 1;
  actions = Output 2 0 ∷ [];
  added = 10;
  last = 10;
}

-- it stood for 15 seconds; a duration stands still at the greatest number of 32 bits
pub record ARemovalIsTold : Type 0 where
  pub message : sent 0 (flow_removed entry 2 25 (record { packets = 5; bytes = 300 }))
      ≡ codes "010b005800000000"
      ++ (raw_text ++ codes "1122334455667788800002000000000f00000000003c00000000000000000005000000000000012c")
  pub last : seconds_of entry 4294967305 ≡ 4294967295
  pub capped : seconds_of entry 4294967306 ≡ 4294967295

-- a message of 66 bytes with transaction id 33, of which an ERROR has 64
abbrev pub refused : List ℕ
refused = 1 ∷ 14 ∷ 0 ∷ 66 ∷ 0 ∷ 0 ∷ 0 ∷ 33 ∷ (replicate 55 0 ++ (0x64 ∷ 0xff ∷ 0xff ∷ []))

-- ERRORs
pub record RefusalsAreSent : Type 0 where
  pub long : encode_lower (refusal (denial_of (Overlap 1)) refused)
      ≡ codes "0101004c000000210003000101" ++ (codes "0e004200000021" ++ (replicate 110 48 ++ codes "64"))
  pub short : encode_lower (refusal (denial_of (Form 1 6)) (1 ∷ 9 ∷ 0 ∷ 9 ∷ 0 ∷ 0 ∷ 0 ∷ 5 ∷ 0xee ∷ []))
      ≡ codes "01010015000000050001000601090009" ++ codes "00000005ee"

-- lines of the audit
pub record LinesAreTold : Type 0 where
  pub form : deny_line (codes "app") (codes "v1") 7 (denial_of (Form 1 6))
      ≡ codes "deny ctl=app vsw=v1 xid=7 rule=form error=1,6"
  pub emergency : deny_line (codes "app") (codes "v1") 8 (denial_of G2Emerg)
      ≡ codes "deny ctl=app vsw=v1 xid=8 rule=G2 flag=emerg"
  pub field : deny_line (codes "mon") (codes "v1") 9 (denial_of (G4 11))
      ≡ codes "deny ctl=mon vsw=v1 xid=9 rule=G4 field=tp_dst"
  pub region : deny_line (codes "mon") (codes "v1") 9 (denial_of G5)
      ≡ codes "deny ctl=mon vsw=v1 xid=9 rule=G5 region=out"
  pub port : deny_line (codes "rt") (codes "v2") 10 (denial_of (G8 65534))
      ≡ codes "deny ctl=rt vsw=v2 xid=10 rule=G8 port=65534"
  pub packet : deny_line (codes "rt") (codes "v2") 0 (denial_of (G11 Region))
      ≡ codes "deny ctl=rt vsw=v2 xid=0 rule=G11 why=region"
  pub overlap : deny_line (codes "app") (codes "v1") 33 (denial_of (Overlap 1))
      ≡ codes "deny ctl=app vsw=v1 xid=33 rule=overlap with=1"
  pub budget : deny_line (codes "app") (codes "v1") 34 (denial_of (Budget 6 6))
      ≡ codes "deny ctl=app vsw=v1 xid=34 rule=budget ranks=6 limit=6"
  pub down : down_line (codes "s1") Removal ≡ codes "down s1 why=removal"
  pub slow : slow_line (codes "rt") (codes "v1") ≡ codes "slow rt@v1"
  pub note : note_line (codes "s1") ≡ codes "note s1 noarp"
  pub taken : policy_line (codes "v1") None ≡ codes "policy vsw=v1 ok"
  pub not_taken : policy_line (codes "v1") (Some (codes "unused")) ≡ codes "policy vsw=v1 refused=unused"

pub features_are_shown : FeaturesAreShown
unfolding body_bytes port_bytes encode_with digits
features_are_shown = record { ports = refl; message = refl }

pub answers_are_given : AnswersAreGiven
unfolding body_bytes port_bytes encode_with digits
answers_are_given = record { dark = refl; config = refl; echo = refl; barrier = refl }

pub a_packet_is_told : APacketIsTold
unfolding body_bytes encode_with
a_packet_is_told = refl

pub a_removal_is_told : ARemovalIsTold
unfolding body_bytes encode_with
a_removal_is_told = record { message = refl; last = refl; capped = refl }

pub refusals_are_sent : RefusalsAreSent
unfolding encode_with
refusals_are_sent = record { long = refl; short = refl }

pub lines_are_told : LinesAreTold
unfolding digits
lines_are_told = record {
  form = refl;
  emergency = refl;
  field = refl;
  region = refl;
  port = refl;
  packet = refl;
  overlap = refl;
  budget = refl;
  down = refl;
  slow = refl;
  note = refl;
  taken = refl;
  not_taken = refl;
}
