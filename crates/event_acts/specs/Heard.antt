-- What a frame of a switch tells, as the machine takes it.
use Rattle.std.specs.Prelude.{◌<◌, ◌+◌, ◌^◌, ℕ, Bool, List, Result, Ok, Err, if◌then◌else◌, length}
use Rattle.of10_msgs.specs.Reading.{reading}
use Rattle.of10_msgs.specs.declared.fault.FormFault.{FormFault}
use Rattle.of10_msgs.specs.declared.message.Body.{Body}
use Rattle.of10_msgs.specs.declared.message.Body.TheVariants as bodies
use Rattle.of10_msgs.specs.declared.message.Message.{Message}
use Rattle.of10_stats.specs.Reading.{reply_in}
use Rattle.of10_stats.specs.declared.fault.StatsFault.{StatsFault}
use Rattle.of10_stats.specs.declared.reply.ReplyBody.{ReplyBody}
use Rattle.of10_stats.specs.declared.reply.ReplyBody.TheVariants as replies
use Rattle.of10_stats.specs.declared.reply.StatsReply.{StatsReply}
use Rattle.machine_meaning.specs.SwitchMessages.{is_ignored}
use Rattle.event_acts.specs.declared.heard.Heard.{Heard}
use Rattle.event_acts.specs.declared.heard.Heard.TheVariants.{Nothing, IllFormed, Error, EchoRequest, PacketIn}
use Rattle.event_acts.specs.declared.heard.Heard.TheVariants.{FlowRemoved, PortStatus, Flows, Ports, BarrierReply}

-- a part of an answer tells of entries or of ports
abbrev pub part_heard : ℕ → Bool → ReplyBody → Heard
part_heard xid more (replies.Flow entries) = Flows xid more entries
part_heard xid more (replies.Port ports) = Ports xid more ports
part_heard xid more body = Nothing

abbrev pub reply_heard : ℕ → Result StatsReply StatsFault → Heard
reply_heard xid (Ok reply) = part_heard xid reply.more reply.body
reply_heard xid (Err fault) = IllFormed

-- a message, by its type
abbrev pub body_heard : ℕ → Body → Heard
body_heard xid (bodies.Error kind code bytes) = Error
body_heard xid (bodies.EchoRequest bytes) = EchoRequest xid bytes
body_heard xid (bodies.PacketIn buffer_id total_len in_port reason bytes) = PacketIn total_len in_port bytes
body_heard xid
    (bodies.FlowRemoved m cookie priority reason duration_sec duration_nsec idle_timeout packet_count byte_count) =
    FlowRemoved cookie packet_count byte_count
body_heard xid (bodies.PortStatus reason port) = PortStatus reason port
body_heard xid (bodies.StatsReply body) = reply_heard xid (reply_in body)
body_heard xid bodies.BarrierReply = BarrierReply xid
body_heard xid body = Nothing

abbrev pub read_heard : Result Message FormFault → Heard
read_heard (Ok m) = body_heard m.xid m.body
read_heard (Err fault) = IllFormed

-- what a frame tells
abbrev pub heard_in : List ℕ → Heard
heard_in frame = if is_ignored frame then Nothing else read_heard (reading frame)

-- what is to be echoed fits a message, and so does a packet that came
abbrev pub IsHeard : Heard → Type 0
IsHeard (EchoRequest xid bytes) = 8 + length bytes < 2 ^ 16
IsHeard (PacketIn total_len in_port bytes) = 18 + length bytes < 2 ^ 16
IsHeard _ = Unit {0}
