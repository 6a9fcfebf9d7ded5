-- Reading a frame: the message, or the first fault in the order in which faults are looked for.
use Rattle.std.specs.Prelude.{◌≡◌, ℕ, zero, suc, ◌+◌, ◌-◌, ◌/◌, List, [], ◌∷◌, length, take, drop, slice_index, Option}
use Rattle.std.specs.Prelude.{Some, None, Result, Ok, Err, nat_lt, ◌==◌, ◌||◌, if◌then◌else◌}
use Rattle.of10_actions.specs.declared.action.Action.{Action as ActionOf}
use Rattle.of10_actions.specs.declared.fault.ActionFault.{ActionFault}
use Rattle.of10_actions.specs.Reading.{reading as actions_in, u16_at, u32_at, u48_at, u64_at}
use Rattle.of10_msgs.specs.Kinds.{kind_at, lengths_of, is_among}
use Rattle.of10_msgs.specs.Spelling.{clear_match}
use Rattle.of10_msgs.specs.declared.fault.FormFault.{FormFault}
use Rattle.of10_msgs.specs.declared.fault.FormFault.TheVariants.{BadVersion, BadType, BadLen, Action, BadVendor, Memory}
use Rattle.of10_msgs.specs.declared.kind.Kind.{Kind}
use Rattle.of10_msgs.specs.declared.kind.Kind.TheVariants.{Hello, Error, EchoRequest, EchoReply, Vendor}
use Rattle.of10_msgs.specs.declared.kind.Kind.TheVariants.{FeaturesRequest, FeaturesReply, GetConfigRequest}
use Rattle.of10_msgs.specs.declared.kind.Kind.TheVariants.{GetConfigReply, SetConfig, PacketIn, FlowRemoved, PortStatus}
use Rattle.of10_msgs.specs.declared.kind.Kind.TheVariants.{PacketOut, FlowMod, PortMod, StatsRequest, StatsReply}
use Rattle.of10_msgs.specs.declared.kind.Kind.TheVariants.{BarrierRequest, BarrierReply, QueueGetConfigRequest}
use Rattle.of10_msgs.specs.declared.kind.Kind.TheVariants.{QueueGetConfigReply}
use Rattle.of10_msgs.specs.declared.message.Body.{Body}
use Rattle.of10_msgs.specs.declared.message.Body.TheVariants as bodies
use Rattle.of10_msgs.specs.declared.message.FlowMod.{FlowMod as FlowModOf}
use Rattle.of10_msgs.specs.declared.message.Message.{Message}
use Rattle.of10_msgs.specs.declared.message.PacketOut.{PacketOut as PacketOutOf}
use Rattle.of10_msgs.specs.declared.message.PhyPort.{PhyPort}

-- the bytes from one place to another
abbrev pub span : ℕ → ℕ → List ℕ → List ℕ
span from count bytes = take count (drop from bytes)

-- the match at a place
abbrev pub match_at : ℕ → List ℕ → List ℕ
match_at at frame = clear_match (span at 40 frame)

-- the port at a place
unfoldable pub port_at : ℕ → List ℕ → PhyPort
port_at at frame = record {
  port_no = u16_at at frame;
  hw_addr = u48_at (at + 2) frame;
  name = span (at + 8) 16 frame;
  config = u32_at (at + 24) frame;
  state = u32_at (at + 28) frame;
  curr = u32_at (at + 32) frame;
  advertised = u32_at (at + 36) frame;
  supported = u32_at (at + 40) frame;
  peer = u32_at (at + 44) frame;
}

-- so many ports from a place on
unfoldable pub ports_at : ℕ → ℕ → List ℕ → List PhyPort
ports_at zero at frame = []
ports_at (suc count) at frame = port_at at frame ∷ ports_at count (at + 48) frame

unfoldable pub features_reply_of : List ℕ → Body
features_reply_of frame = bodies.FeaturesReply (u64_at 8 frame) (u32_at 16 frame) (slice_index frame 20)
    (u32_at 24 frame) (u32_at 28 frame) (ports_at ((length frame - 32) / 48) 32 frame)

unfoldable pub flow_removed_of : List ℕ → Body
flow_removed_of frame = bodies.FlowRemoved (match_at 8 frame) (u64_at 48 frame) (u16_at 56 frame) (slice_index frame 58)
    (u32_at 60 frame) (u32_at 64 frame) (u16_at 68 frame) (u64_at 72 frame) (u64_at 80 frame)

unfoldable pub flow_mod_of : List ActionOf → List ℕ → FlowModOf
flow_mod_of actions frame = record {
  m = match_at 8 frame;
  cookie = u64_at 48 frame;
  command = u16_at 56 frame;
  idle_timeout = u16_at 58 frame;
  hard_timeout = u16_at 60 frame;
  priority = u16_at 62 frame;
  buffer_id = u32_at 64 frame;
  out_port = u16_at 68 frame;
  flags = u16_at 70 frame;
  actions = actions;
}

-- a PACKET_OUT with so many bytes of actions
unfoldable pub packet_out_of : List ActionOf → ℕ → List ℕ → PacketOutOf
packet_out_of actions actions_len frame = record {
  buffer_id = u32_at 8 frame;
  in_port = u16_at 12 frame;
  actions = actions;
  bytes = drop (16 + actions_len) frame;
}

-- a list of actions, whose fault is a fault of the message
abbrev pub listed : Result (List ActionOf) ActionFault → Result (List ActionOf) FormFault
listed (Ok actions) = Ok actions
listed (Err fault) = Err (Action fault)

-- a body with these actions, or their fault
abbrev pub with_actions : Result (List ActionOf) FormFault → (List ActionOf → Body) → Result Body FormFault
with_actions (Ok actions) body = Ok (body actions)
with_actions (Err fault) body = Err fault

-- the actions of a PACKET_OUT may not go past the end
unfoldable pub packet_out_at : ℕ → List ℕ → Result Body FormFault
packet_out_at actions_len frame = if nat_lt (length frame) (16 + actions_len) then Err (BadLen 13 (length frame))
    else with_actions (listed (actions_in (span 16 actions_len frame)))
    (λ actions. bodies.PacketOut (packet_out_of actions actions_len frame))

-- the body of a message of this type, where it may have its length
abbrev pub body_at : Kind → List ℕ → Result Body FormFault
body_at Hello frame = Ok (bodies.Hello (drop 8 frame))
body_at Error frame = Ok (bodies.Error (u16_at 8 frame) (u16_at 10 frame) (drop 12 frame))
body_at EchoRequest frame = Ok (bodies.EchoRequest (drop 8 frame))
body_at EchoReply frame = Ok (bodies.EchoReply (drop 8 frame))
body_at Vendor frame = Err BadVendor
body_at FeaturesRequest frame = Ok bodies.FeaturesRequest
body_at FeaturesReply frame = Ok (features_reply_of frame)
body_at GetConfigRequest frame = Ok bodies.GetConfigRequest
body_at GetConfigReply frame = Ok (bodies.GetConfigReply (u16_at 8 frame) (u16_at 10 frame))
body_at SetConfig frame = Ok (bodies.SetConfig (u16_at 8 frame) (u16_at 10 frame))
body_at PacketIn frame =
    Ok (bodies.PacketIn (u32_at 8 frame) (u16_at 12 frame) (u16_at 14 frame) (slice_index frame 16) (drop 18 frame))
body_at FlowRemoved frame = Ok (flow_removed_of frame)
body_at PortStatus frame = Ok (bodies.PortStatus (slice_index frame 8) (port_at 16 frame))
body_at PacketOut frame = packet_out_at (u16_at 14 frame) frame
body_at FlowMod frame = with_actions (listed (actions_in (drop 72 frame)))
    (λ actions. bodies.FlowMod (flow_mod_of actions frame))
body_at PortMod frame = Ok (bodies.PortMod (drop 8 frame))
body_at StatsRequest frame = Ok (bodies.StatsRequest (drop 8 frame))
body_at StatsReply frame = Ok (bodies.StatsReply (drop 8 frame))
body_at BarrierRequest frame = Ok bodies.BarrierRequest
body_at BarrierReply frame = Ok bodies.BarrierReply
body_at QueueGetConfigRequest frame = Ok (bodies.QueueGetConfigRequest (drop 8 frame))
body_at QueueGetConfigReply frame = Ok (bodies.QueueGetConfigReply (drop 8 frame))

-- a message with this body, or its fault
abbrev pub message_of : ℕ → Result Body FormFault → Result Message FormFault
message_of xid (Ok body) = Ok (record { xid = xid; body = body })
message_of xid (Err fault) = Err fault

-- the message of a type, which may have only some lengths
abbrev pub typed : Option Kind → List ℕ → Result Message FormFault
typed None frame = Err (BadType (slice_index frame 1))
typed (Some kind) frame = if is_among (lengths_of kind) (length frame)
    then message_of (u32_at 4 frame) (body_at kind frame) else Err (BadLen (slice_index frame 1) (length frame))

-- only a HELLO may have another version than 1
abbrev pub reading : List ℕ → Result Message FormFault
reading frame = if (slice_index frame 0 == 1) || (slice_index frame 1 == 0)
    then typed (kind_at (slice_index frame 1)) frame else Err (BadVersion (slice_index frame 0))

-- what a call answered is what reading gives, unless memory ran out
abbrev pub Gives : {A : Type 0} → Result A FormFault → Result A FormFault → Type 0
Gives (Err Memory) read = Unit {0}
Gives answer read = answer ≡ read
