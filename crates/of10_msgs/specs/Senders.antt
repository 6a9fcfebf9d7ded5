-- Who sends the messages of a type.
use Rattle.std.specs.Prelude.{ℕ, Bool, true, false, ◌==◌, ◌&&◌, List, slice_index, Option, Some, None, Result, Err}
use Rattle.std.specs.Prelude.{if◌then◌else◌}
use Rattle.of10_msgs.specs.Kinds.{kind_at}
use Rattle.of10_msgs.specs.Reading.{reading}
use Rattle.of10_msgs.specs.declared.fault.FormFault.{FormFault}
use Rattle.of10_msgs.specs.declared.fault.FormFault.TheVariants.{BadType}
use Rattle.of10_msgs.specs.declared.kind.Kind.{Kind}
use Rattle.of10_msgs.specs.declared.kind.Kind.TheVariants.{Hello, Error, EchoRequest, EchoReply, Vendor}
use Rattle.of10_msgs.specs.declared.kind.Kind.TheVariants.{FeaturesRequest, FeaturesReply, GetConfigRequest}
use Rattle.of10_msgs.specs.declared.kind.Kind.TheVariants.{GetConfigReply, SetConfig, PacketIn, FlowRemoved, PortStatus}
use Rattle.of10_msgs.specs.declared.kind.Kind.TheVariants.{PacketOut, FlowMod, PortMod, StatsRequest, StatsReply}
use Rattle.of10_msgs.specs.declared.kind.Kind.TheVariants.{BarrierRequest, BarrierReply, QueueGetConfigRequest}
use Rattle.of10_msgs.specs.declared.kind.Kind.TheVariants.{QueueGetConfigReply}
use Rattle.of10_msgs.specs.declared.message.Message.{Message}
use Rattle.of10_msgs.specs.declared.sender.Sender.{Sender}
use Rattle.of10_msgs.specs.declared.sender.Sender.TheVariants.{Either, Controller, Switch}

-- who sends messages of a type
abbrev pub sender_of : Kind → Sender
sender_of Hello = Either
sender_of Error = Either
sender_of EchoRequest = Either
sender_of EchoReply = Either
sender_of Vendor = Either
sender_of FeaturesRequest = Controller
sender_of FeaturesReply = Switch
sender_of GetConfigRequest = Controller
sender_of GetConfigReply = Switch
sender_of SetConfig = Controller
sender_of PacketIn = Switch
sender_of FlowRemoved = Switch
sender_of PortStatus = Switch
sender_of PacketOut = Controller
sender_of FlowMod = Controller
sender_of PortMod = Controller
sender_of StatsRequest = Controller
sender_of StatsReply = Switch
sender_of BarrierRequest = Controller
sender_of BarrierReply = Switch
sender_of QueueGetConfigRequest = Controller
sender_of QueueGetConfigReply = Switch

-- a type that only switches send
abbrev pub is_of_switch : Option Kind → Bool
is_of_switch None = false
is_of_switch (Some kind) = is_switch (sender_of kind)
  where
    is_switch : Sender → Bool
    is_switch Switch = true
    is_switch _ = false

-- a type that only switches send is refused of a controller, whatever the frame's length
abbrev pub reading_of_controller : List ℕ → Result Message FormFault
reading_of_controller frame =
    if (slice_index frame 0 == 1) && is_of_switch (kind_at (slice_index frame 1))
    then Err (BadType (slice_index frame 1)) else reading frame
