-- What a member is told of packets and of entries that went.
use Rattle.std.specs.Prelude.{ℕ, ◌-◌, List, min}
use Rattle.of10_msgs.specs.Numbers.{NO_BUFFER}
use Rattle.of10_msgs.specs.Spelling.{clear_match}
use Rattle.of10_msgs.specs.declared.message.Body.{Body}
use Rattle.of10_msgs.specs.declared.message.Body.TheVariants.{FlowRemoved, PacketIn}
use Rattle.switch_meaning.specs.Counts.{Numbers}
use Rattle.member_table.specs.declared.entry.Entry.{Entry}

-- the PACKET_IN of a packet that is in no buffer
abbrev pub packet_in : ℕ → ℕ → ℕ → List ℕ → Body
packet_in total_len in_port reason bytes = PacketIn NO_BUFFER total_len in_port reason bytes

-- the match of an entry as it was written, with zeros for its padding
abbrev pub written_match : Entry → List ℕ
written_match e = clear_match e.raw

-- for how many seconds an entry has stood at a moment, at most the greatest number of 32 bits
abbrev pub seconds_of : Entry → ℕ → ℕ
seconds_of e moment = min (moment - e.added) 4294967295

-- the FLOW_REMOVED of an entry that was removed at a moment for a reason, with its count
abbrev pub flow_removed : Entry → ℕ → ℕ → Numbers → Body
flow_removed e reason moment count =
    FlowRemoved (written_match e) e.cookie e.priority reason (seconds_of e moment) 0 e.idle count.packets count.bytes
