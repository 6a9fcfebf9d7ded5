-- The bytes that stand for a message (sections 5.1 to 5.5 of the OpenFlow Switch Specification 1.0.0).
use Rattle.std.specs.Prelude.{◌≡◌, ℕ, ◌+◌, List, [], ◌∷◌, ◌++◌, length, take, drop, replicate, slice_set}
use Rattle.std.specs.List.{flat_map}
use Rattle.byteorder.specs.Endian.{big_bytes}
use Rattle.of10_actions.specs.Spelling.{spellings, SpellsList}
use Rattle.of10_frames.specs.Wire.{header_bytes}
use Rattle.of10_msgs.specs.Bodies.{kind_of}
use Rattle.of10_msgs.specs.Kinds.{number_of}
use Rattle.of10_msgs.specs.declared.message.Body.{Body}
use Rattle.of10_msgs.specs.declared.message.Body.TheVariants.{Hello, Error, EchoRequest, EchoReply, FeaturesRequest}
use Rattle.of10_msgs.specs.declared.message.Body.TheVariants.{FeaturesReply, GetConfigRequest, GetConfigReply}
use Rattle.of10_msgs.specs.declared.message.Body.TheVariants.{SetConfig, PacketIn, FlowRemoved, PortStatus, PacketOut}
use Rattle.of10_msgs.specs.declared.message.Body.TheVariants.{FlowMod, PortMod, StatsRequest, StatsReply}
use Rattle.of10_msgs.specs.declared.message.Body.TheVariants.{BarrierRequest, BarrierReply, QueueGetConfigRequest}
use Rattle.of10_msgs.specs.declared.message.Body.TheVariants.{QueueGetConfigReply}
use Rattle.of10_msgs.specs.declared.message.FlowMod.{FlowMod as FlowModOf}
use Rattle.of10_msgs.specs.declared.message.Message.{Message}
use Rattle.of10_msgs.specs.declared.message.PacketOut.{PacketOut as PacketOutOf}
use Rattle.of10_msgs.specs.declared.message.PhyPort.{PhyPort}

-- what is free in the bytes of a message: the padding, and the bytes of its match and its actions, which
-- have padding of their own
pub record Free : Type 0 where
  pub pad : List ℕ
  pub m : List ℕ
  pub actions : List ℕ

-- a match's 40 bytes with zeros for its padding, at 21, 26 and 27
abbrev pub clear_match : List ℕ → List ℕ
clear_match bytes = slice_set (slice_set (slice_set bytes 21 0) 26 0) 27 0

-- a port, 48 bytes
unfoldable pub port_bytes : PhyPort → List ℕ
port_bytes p = big_bytes 2 p.port_no
    ++ (big_bytes 6 p.hw_addr
    ++ (p.name
    ++ (big_bytes 4 p.config
    ++ (big_bytes 4 p.state
    ++ (big_bytes 4 p.curr ++ (big_bytes 4 p.advertised ++ (big_bytes 4 p.supported ++ big_bytes 4 p.peer)))))))

-- a FLOW_MOD between its match and its actions, 24 bytes
unfoldable pub flow_mod_fields : FlowModOf → List ℕ
flow_mod_fields f = big_bytes 8 f.cookie
    ++ (big_bytes 2 f.command
    ++ (big_bytes 2 f.idle_timeout
    ++ (big_bytes 2 f.hard_timeout
    ++ (big_bytes 2 f.priority ++ (big_bytes 4 f.buffer_id ++ (big_bytes 2 f.out_port ++ big_bytes 2 f.flags))))))

-- a PACKET_OUT before its actions, of which there are so many bytes
unfoldable pub packet_out_fields : PacketOutOf → ℕ → List ℕ
packet_out_fields p actions_len = big_bytes 4 p.buffer_id ++ (big_bytes 2 p.in_port ++ big_bytes 2 actions_len)

-- what follows the header, where the free bytes are these
abbrev pub body_with : Body → Free → List ℕ
body_with (Hello bytes) free = bytes
body_with (Error kind code bytes) free = big_bytes 2 kind ++ (big_bytes 2 code ++ bytes)
body_with (EchoRequest bytes) free = bytes
body_with (EchoReply bytes) free = bytes
body_with FeaturesRequest free = []
body_with (FeaturesReply datapath_id n_buffers n_tables capabilities actions ports) free =
    big_bytes 8 datapath_id
    ++ (big_bytes 4 n_buffers
    ++ (n_tables ∷ (free.pad ++ (big_bytes 4 capabilities ++ (big_bytes 4 actions ++ flat_map port_bytes ports)))))
body_with GetConfigRequest free = []
body_with (GetConfigReply flags miss_send_len) free = big_bytes 2 flags ++ big_bytes 2 miss_send_len
body_with (SetConfig flags miss_send_len) free = big_bytes 2 flags ++ big_bytes 2 miss_send_len
body_with (PacketIn buffer_id total_len in_port reason bytes) free =
    big_bytes 4 buffer_id ++ (big_bytes 2 total_len ++ (big_bytes 2 in_port ++ (reason ∷ (free.pad ++ bytes))))
body_with (FlowRemoved m cookie priority reason duration_sec duration_nsec idle_timeout packet_count byte_count) free =
    free.m
    ++ (big_bytes 8 cookie
    ++ (big_bytes 2 priority
    ++ (reason
    ∷ (take 1 free.pad
    ++ (big_bytes 4 duration_sec
    ++ (big_bytes 4 duration_nsec
    ++ (big_bytes 2 idle_timeout ++ (drop 1 free.pad ++ (big_bytes 8 packet_count ++ big_bytes 8 byte_count)))))))))
body_with (PortStatus reason port) free = reason ∷ (free.pad ++ port_bytes port)
body_with (PacketOut p) free = packet_out_fields p (length free.actions) ++ (free.actions ++ p.bytes)
body_with (FlowMod f) free = free.m ++ (flow_mod_fields f ++ free.actions)
body_with (PortMod bytes) free = bytes
body_with (StatsRequest body) free = body
body_with (StatsReply body) free = body
body_with BarrierRequest free = []
body_with BarrierReply free = []
body_with (QueueGetConfigRequest bytes) free = bytes
body_with (QueueGetConfigReply bytes) free = bytes

-- how many bytes of padding a body has, those of matches and actions left out
abbrev pub padding : Body → ℕ
padding (FeaturesReply datapath_id n_buffers n_tables capabilities actions ports) = 3
padding (PacketIn buffer_id total_len in_port reason bytes) = 1
padding (FlowRemoved m cookie priority reason duration_sec duration_nsec idle_timeout packet_count byte_count) = 3
padding (PortStatus reason port) = 7
padding _ = 0

-- the match of a body, or no bytes
abbrev pub match_of : Body → List ℕ
match_of (FlowRemoved m cookie priority reason duration_sec duration_nsec idle_timeout packet_count byte_count) = m
match_of (FlowMod f) = f.m
match_of _ = []

-- the bytes of a body's actions, as they are written
abbrev pub actions_of : Body → List ℕ
actions_of (PacketOut p) = spellings p.actions
actions_of (FlowMod f) = spellings f.actions
actions_of _ = []

-- what is free in a body as it is written: zeros
abbrev pub written : Body → Free
written b = record { pad = replicate (padding b) 0; m = match_of b; actions = actions_of b }

-- what follows the header of a message that is written
unfoldable pub body_bytes : Body → List ℕ
body_bytes b = body_with b (written b)

-- a message of some version, with these free bytes
abbrev pub with_free : ℕ → Message → Free → List ℕ
with_free version m free =
    version
    ∷ (number_of (kind_of m.body)
    ∷ (big_bytes 2 (8 + length (body_with m.body free)) ++ (big_bytes 4 m.xid ++ body_with m.body free)))

-- a message as it is written
abbrev pub spelling : Message → List ℕ
spelling m =
    header_bytes (number_of (kind_of m.body)) (8 + length (body_bytes m.body)) m.xid ++ body_bytes m.body

-- the free bytes stand for a body's actions
abbrev pub SpellsActions : Body → List ℕ → Type 0
SpellsActions (PacketOut p) bytes = SpellsList p.actions bytes
SpellsActions (FlowMod f) bytes = SpellsList f.actions bytes
SpellsActions _ bytes = Unit {0}

-- the version is 1; any is in a HELLO
abbrev pub IsVersion : ℕ → Body → Type 0
IsVersion version (Hello bytes) = Unit {0}
IsVersion version _ = version ≡ 1

-- the frame stands for the message, whatever is free in it
pub record Spells (m : Message) (frame : List ℕ) : Type 0 where
  pub version : ℕ
  pub free : Free
  pub is_version : IsVersion version m.body
  pub pad : length free.pad ≡ padding m.body
  pub matched : clear_match free.m ≡ match_of m.body
  pub actions : SpellsActions m.body free.actions
  pub whole : frame ≡ with_free version m free
