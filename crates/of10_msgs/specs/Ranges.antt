-- The numbers of messages are in their ranges.
use Rattle.std.specs.Prelude.{◌≡◌, ◌<◌, ◌^◌, ◌+◌, ℕ, List, All, true, length}
use Rattle.of10_actions.specs.Actions.{AreInRange, FitsTypes as ActionFits}
use Rattle.of10_msgs.specs.Bodies.{kind_of}
use Rattle.of10_msgs.specs.Kinds.{is_among, lengths_of}
use Rattle.of10_msgs.specs.Spelling.{clear_match, body_bytes}
use Rattle.of10_msgs.specs.declared.message.Body.{Body}
use Rattle.of10_msgs.specs.declared.message.Body.TheVariants.{Error, FeaturesReply, GetConfigReply, SetConfig, PacketIn}
use Rattle.of10_msgs.specs.declared.message.Body.TheVariants.{FlowRemoved, PortStatus, PacketOut, FlowMod}
use Rattle.of10_msgs.specs.declared.message.FlowMod.{FlowMod as FlowModOf}
use Rattle.of10_msgs.specs.declared.message.Message.{Message}
use Rattle.of10_msgs.specs.declared.message.PacketOut.{PacketOut as PacketOutOf}
use Rattle.of10_msgs.specs.declared.message.PhyPort.{PhyPort}

-- a match whose padding is zero
abbrev pub IsClear : List ℕ → Type 0
IsClear m = clear_match m ≡ m

-- a port's Ethernet address is one
abbrev pub HasAddress : PhyPort → Type 0
HasAddress port = port.hw_addr < 2 ^ 48

-- a body's Ethernet addresses, matches and actions are in their ranges
abbrev pub IsInRange : Body → Type 0
IsInRange (FeaturesReply datapath_id n_buffers n_tables capabilities actions ports) = All HasAddress ports
IsInRange (PortStatus reason port) = HasAddress port
IsInRange (FlowRemoved m cookie priority reason duration_sec duration_nsec idle_timeout packet_count byte_count) =
    IsClear m
IsInRange (PacketOut p) = AreInRange p.actions
IsInRange (FlowMod f) = IsClear f.m × AreInRange f.actions
IsInRange _ = Unit {0}

-- a body that can be written: a message of its type may have its length, and its parts are in range
pub record CanWrite (b : Body) : Type 0 where
  pub long : is_among (lengths_of (kind_of b)) (8 + length (body_bytes b)) ≡ true
  pub fits : 8 + length (body_bytes b) < 2 ^ 16
  pub in_range : IsInRange b

-- a port's numbers fit their types
pub record PortFits (p : PhyPort) : Type 0 where
  pub port_no : p.port_no < 2 ^ 16
  pub name : length p.name ≡ 16
  pub config : p.config < 2 ^ 32
  pub state : p.state < 2 ^ 32
  pub curr : p.curr < 2 ^ 32
  pub advertised : p.advertised < 2 ^ 32
  pub supported : p.supported < 2 ^ 32
  pub peer : p.peer < 2 ^ 32

-- a FLOW_MOD's numbers fit their types
pub record FlowModFits (f : FlowModOf) : Type 0 where
  pub m : length f.m ≡ 40
  pub cookie : f.cookie < 2 ^ 64
  pub command : f.command < 2 ^ 16
  pub idle_timeout : f.idle_timeout < 2 ^ 16
  pub hard_timeout : f.hard_timeout < 2 ^ 16
  pub priority : f.priority < 2 ^ 16
  pub buffer_id : f.buffer_id < 2 ^ 32
  pub out_port : f.out_port < 2 ^ 16
  pub flags : f.flags < 2 ^ 16
  pub actions : All ActionFits f.actions

-- a PACKET_OUT's numbers fit their types
pub record PacketOutFits (p : PacketOutOf) : Type 0 where
  pub buffer_id : p.buffer_id < 2 ^ 32
  pub in_port : p.in_port < 2 ^ 16
  pub actions : All ActionFits p.actions

-- a body's numbers fit their types
abbrev pub FitsTypes : Body → Type 0
FitsTypes (Error kind code bytes) = (kind < 2 ^ 16) × (code < 2 ^ 16)
FitsTypes (FeaturesReply datapath_id n_buffers n_tables capabilities actions ports) =
    (datapath_id < 2 ^ 64) × (n_buffers < 2 ^ 32) × (capabilities < 2 ^ 32) × (actions < 2 ^ 32) × All PortFits ports
FitsTypes (GetConfigReply flags miss_send_len) = (flags < 2 ^ 16) × (miss_send_len < 2 ^ 16)
FitsTypes (SetConfig flags miss_send_len) = (flags < 2 ^ 16) × (miss_send_len < 2 ^ 16)
FitsTypes (PacketIn buffer_id total_len in_port reason bytes) = (buffer_id < 2 ^ 32) × (total_len < 2 ^ 16)
    × (in_port < 2 ^ 16)
FitsTypes (FlowRemoved m cookie priority reason duration_sec duration_nsec idle_timeout packet_count byte_count) =
    (length m ≡ 40) × (cookie < 2 ^ 64) × (priority < 2 ^ 16) × (duration_sec < 2 ^ 32) × (duration_nsec < 2 ^ 32)
    × (idle_timeout < 2 ^ 16) × (packet_count < 2 ^ 64) × (byte_count < 2 ^ 64)
FitsTypes (PortStatus reason port) = PortFits port
FitsTypes (PacketOut p) = PacketOutFits p
FitsTypes (FlowMod f) = FlowModFits f
FitsTypes _ = Unit {0}

-- a message that can be written, whose numbers fit their types
pub record IsMessage (m : Message) : Type 0 where
  pub xid : m.xid < 2 ^ 32
  pub body : CanWrite m.body
  pub fits : FitsTypes m.body
