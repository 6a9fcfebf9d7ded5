-- The types of messages, with their numbers, and the lengths that each may have.
use Rattle.std.specs.Prelude.{ℕ, ◌-◌, ◌%◌, Bool, List, [], ◌∷◌, Option, slice_get, nat_le, ◌==◌, ◌&&◌}
use Rattle.of10_msgs.specs.declared.kind.Kind.{Kind}
use Rattle.of10_msgs.specs.declared.kind.Kind.TheVariants.{Hello, Error, EchoRequest, EchoReply, Vendor}
use Rattle.of10_msgs.specs.declared.kind.Kind.TheVariants.{FeaturesRequest, FeaturesReply, GetConfigRequest}
use Rattle.of10_msgs.specs.declared.kind.Kind.TheVariants.{GetConfigReply, SetConfig, PacketIn, FlowRemoved, PortStatus}
use Rattle.of10_msgs.specs.declared.kind.Kind.TheVariants.{PacketOut, FlowMod, PortMod, StatsRequest, StatsReply}
use Rattle.of10_msgs.specs.declared.kind.Kind.TheVariants.{BarrierRequest, BarrierReply, QueueGetConfigRequest}
use Rattle.of10_msgs.specs.declared.kind.Kind.TheVariants.{QueueGetConfigReply}
use Rattle.of10_msgs.specs.declared.kind.Lengths.{Lengths}
use Rattle.of10_msgs.specs.declared.kind.Lengths.TheVariants.{Exactly, AtLeast, WithPorts}

-- the types, by their numbers from 0
abbrev pub kinds : List Kind
kinds = Hello ∷ Error ∷ EchoRequest ∷ EchoReply ∷ Vendor ∷ FeaturesRequest ∷ FeaturesReply ∷ GetConfigRequest
    ∷ GetConfigReply ∷ SetConfig ∷ PacketIn ∷ FlowRemoved ∷ PortStatus ∷ PacketOut ∷ FlowMod ∷ PortMod ∷ StatsRequest
    ∷ StatsReply ∷ BarrierRequest ∷ BarrierReply ∷ QueueGetConfigRequest ∷ QueueGetConfigReply ∷ []

-- the type of a number
abbrev pub kind_at : ℕ → Option Kind
kind_at number = slice_get kinds number

-- the number of a type
abbrev pub number_of : Kind → ℕ
number_of Hello = 0
number_of Error = 1
number_of EchoRequest = 2
number_of EchoReply = 3
number_of Vendor = 4
number_of FeaturesRequest = 5
number_of FeaturesReply = 6
number_of GetConfigRequest = 7
number_of GetConfigReply = 8
number_of SetConfig = 9
number_of PacketIn = 10
number_of FlowRemoved = 11
number_of PortStatus = 12
number_of PacketOut = 13
number_of FlowMod = 14
number_of PortMod = 15
number_of StatsRequest = 16
number_of StatsReply = 17
number_of BarrierRequest = 18
number_of BarrierReply = 19
number_of QueueGetConfigRequest = 20
number_of QueueGetConfigReply = 21

-- the lengths of messages of a type, in bytes with the header
abbrev pub lengths_of : Kind → Lengths
lengths_of Hello = AtLeast 8
lengths_of Error = AtLeast 12
lengths_of EchoRequest = AtLeast 8
lengths_of EchoReply = AtLeast 8
lengths_of Vendor = AtLeast 12
lengths_of FeaturesRequest = Exactly 8
lengths_of FeaturesReply = WithPorts 32
lengths_of GetConfigRequest = Exactly 8
lengths_of GetConfigReply = Exactly 12
lengths_of SetConfig = Exactly 12
lengths_of PacketIn = AtLeast 18
lengths_of FlowRemoved = Exactly 88
lengths_of PortStatus = Exactly 64
lengths_of PacketOut = AtLeast 16
lengths_of FlowMod = AtLeast 72
lengths_of PortMod = Exactly 32
lengths_of StatsRequest = AtLeast 12
lengths_of StatsReply = AtLeast 12
lengths_of BarrierRequest = Exactly 8
lengths_of BarrierReply = Exactly 8
lengths_of QueueGetConfigRequest = Exactly 12
lengths_of QueueGetConfigReply = AtLeast 16

-- a length is among these
abbrev pub is_among : Lengths → ℕ → Bool
is_among (Exactly n) len = len == n
is_among (AtLeast n) len = nat_le n len
is_among (WithPorts n) len = nat_le n len && ((len - n) % 48 == 0)
