-- The type of a message's body.
use Rattle.of10_msgs.specs.declared.kind.Kind.{Kind}
use Rattle.of10_msgs.specs.declared.kind.Kind.TheVariants as kinds
use Rattle.of10_msgs.specs.declared.message.Body.{Body}
use Rattle.of10_msgs.specs.declared.message.Body.TheVariants.{Hello, Error, EchoRequest, EchoReply, FeaturesRequest}
use Rattle.of10_msgs.specs.declared.message.Body.TheVariants.{FeaturesReply, GetConfigRequest, GetConfigReply}
use Rattle.of10_msgs.specs.declared.message.Body.TheVariants.{SetConfig, PacketIn, FlowRemoved, PortStatus, PacketOut}
use Rattle.of10_msgs.specs.declared.message.Body.TheVariants.{FlowMod, PortMod, StatsRequest, StatsReply}
use Rattle.of10_msgs.specs.declared.message.Body.TheVariants.{BarrierRequest, BarrierReply, QueueGetConfigRequest}
use Rattle.of10_msgs.specs.declared.message.Body.TheVariants.{QueueGetConfigReply}

abbrev pub kind_of : Body → Kind
kind_of (Hello bytes) = kinds.Hello
kind_of (Error kind code bytes) = kinds.Error
kind_of (EchoRequest bytes) = kinds.EchoRequest
kind_of (EchoReply bytes) = kinds.EchoReply
kind_of FeaturesRequest = kinds.FeaturesRequest
kind_of (FeaturesReply datapath_id n_buffers n_tables capabilities actions ports) = kinds.FeaturesReply
kind_of GetConfigRequest = kinds.GetConfigRequest
kind_of (GetConfigReply flags miss_send_len) = kinds.GetConfigReply
kind_of (SetConfig flags miss_send_len) = kinds.SetConfig
kind_of (PacketIn buffer_id total_len in_port reason bytes) = kinds.PacketIn
kind_of (FlowRemoved m cookie priority reason duration_sec duration_nsec idle_timeout packet_count byte_count) =
    kinds.FlowRemoved
kind_of (PortStatus reason port) = kinds.PortStatus
kind_of (PacketOut out) = kinds.PacketOut
kind_of (FlowMod change) = kinds.FlowMod
kind_of (PortMod bytes) = kinds.PortMod
kind_of (StatsRequest body) = kinds.StatsRequest
kind_of (StatsReply body) = kinds.StatsReply
kind_of BarrierRequest = kinds.BarrierRequest
kind_of BarrierReply = kinds.BarrierReply
kind_of (QueueGetConfigRequest bytes) = kinds.QueueGetConfigRequest
kind_of (QueueGetConfigReply bytes) = kinds.QueueGetConfigReply
