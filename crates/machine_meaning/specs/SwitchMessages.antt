-- A message of a switch.
use Rattle.std.specs.Prelude.{ℕ, Bool, true, false, ◌==◌, ◌&&◌, List, [], ◌∷◌, ◌++◌, Option, Some, None, Result, Ok}
use Rattle.std.specs.Prelude.{Err, if◌then◌else◌, slice_get, slice_index}
use Rattle.of10_msgs.specs.Kinds.{kind_at}
use Rattle.of10_msgs.specs.Reading.{reading}
use Rattle.of10_msgs.specs.Senders.{sender_of}
use Rattle.of10_msgs.specs.declared.fault.FormFault.{FormFault}
use Rattle.of10_msgs.specs.declared.kind.Kind.{Kind}
use Rattle.of10_msgs.specs.declared.kind.Kind.TheVariants.{Vendor}
use Rattle.of10_msgs.specs.declared.message.Body.{Body}
use Rattle.of10_msgs.specs.declared.message.Body.TheVariants as bodies
use Rattle.of10_msgs.specs.declared.message.Message.{Message}
use Rattle.of10_msgs.specs.declared.sender.Sender.{Sender}
use Rattle.of10_msgs.specs.declared.sender.Sender.TheVariants as senders
use Rattle.of10_stats.specs.Reading.{reply_in}
use Rattle.of10_stats.specs.declared.fault.StatsFault.{StatsFault}
use Rattle.of10_stats.specs.declared.reply.StatsReply.{StatsReply}
use Rattle.policies.specs.Policies.{PolicyOf}
use Rattle.script_text.specs.declared.audit.DownCause.TheVariants as causes
use Rattle.switch_state.specs.Messages.{echo_reply}
use Rattle.machine_meaning.specs.Barriers.{barrier_replied}
use Rattle.machine_meaning.specs.Drafts.{Draft, letter}
use Rattle.machine_meaning.specs.Packets.{packet_comes}
use Rattle.machine_meaning.specs.Parts.{part_told}
use Rattle.machine_meaning.specs.Removals.{port_reported, removal_reported}
use Rattle.machine_meaning.specs.Rounds.{end_switch}
use Rattle.machine_meaning.specs.States.{SwitchOf}

-- only controllers send messages of the type
abbrev pub is_of_controllers : Sender → Bool
is_of_controllers senders.Controller = true
is_of_controllers _ = false

-- it is a vendor's, or one that only controllers send
abbrev pub is_passed_over : Option Kind → Bool
is_passed_over None = false
is_passed_over (Some Vendor) = true
is_passed_over (Some kind) = is_of_controllers (sender_of kind)

-- a frame of version 1 that is passed over, whatever its length and its body
abbrev pub is_ignored : List ℕ → Bool
is_ignored frame = (slice_index frame 0 == 1) && is_passed_over (kind_at (slice_index frame 1))

-- a part of an answer to a poll; one that can't be read ends the round
abbrev pub statistics_told : PolicyOf → ℕ → ℕ → Result StatsReply StatsFault → Draft → Draft
statistics_told p n xid (Ok reply) d = part_told p n xid reply.more reply.body d
statistics_told p n xid (Err fault) d = end_switch n causes.Form d

-- an ECHO_REQUEST is answered, with its own xid
abbrev pub echoed : ℕ → ℕ → List ℕ → Draft → Draft
echoed n xid bytes d = record d { echoes = d.echoes ++ letter n (echo_reply xid bytes) ∷ [] }

-- a message, by its type
abbrev pub hears : PolicyOf → ℕ → SwitchOf → ℕ → Body → Draft → Draft
hears p n x xid (bodies.Error kind code bytes) d = end_switch n causes.Error d
hears p n x xid (bodies.EchoRequest bytes) d = echoed n xid bytes d
hears p n x xid (bodies.PacketIn buffer_id total_len in_port reason bytes) d =
    packet_comes p n total_len in_port bytes d
hears p n x xid
    (bodies.FlowRemoved m cookie priority reason duration_sec duration_nsec idle_timeout packet_count byte_count) d =
    removal_reported n x cookie (record { packets = packet_count; bytes = byte_count }) d
hears p n x xid (bodies.PortStatus reason port) d = port_reported n reason port d
hears p n x xid (bodies.StatsReply body) d = statistics_told p n xid (reply_in body) d
hears p n x xid bodies.BarrierReply d = barrier_replied n x xid d
hears p n x xid body d = d

-- a frame that can't be read ends the round
abbrev pub hears_read : PolicyOf → ℕ → SwitchOf → Result Message FormFault → Draft → Draft
hears_read p n x (Ok message) d = hears p n x message.xid message.body d
hears_read p n x (Err fault) d = end_switch n causes.Form d

-- a switch that is there sends a frame
abbrev pub hears_from : PolicyOf → ℕ → Option SwitchOf → List ℕ → Draft → Draft
hears_from p n None frame d = d
hears_from p n (Some x) frame d = if is_ignored frame then d else hears_read p n x (reading frame) d

abbrev pub hears_switch : PolicyOf → ℕ → List ℕ → Draft → Draft
hears_switch p n frame d = hears_from p n (slice_get d.state.switches n) frame d
