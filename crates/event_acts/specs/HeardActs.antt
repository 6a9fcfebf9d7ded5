-- What comes of what a switch's frame tells.
use Rattle.std.specs.Prelude.{ℕ, Option, Some, None, slice_get}
use Rattle.of10_stats.specs.declared.reply.ReplyBody.TheVariants as replies
use Rattle.policies.specs.Policies.{PolicyOf}
use Rattle.script_text.specs.declared.audit.DownCause.TheVariants as causes
use Rattle.machine_meaning.specs.Barriers.{barrier_replied}
use Rattle.machine_meaning.specs.Drafts.{Draft}
use Rattle.machine_meaning.specs.Packets.{packet_comes}
use Rattle.machine_meaning.specs.Parts.{part_told}
use Rattle.machine_meaning.specs.Removals.{port_reported, removal_reported}
use Rattle.machine_meaning.specs.Rounds.{end_switch}
use Rattle.machine_meaning.specs.States.{SwitchOf}
use Rattle.machine_meaning.specs.SwitchMessages.{echoed}
use Rattle.event_acts.specs.declared.heard.Heard.{Heard}
use Rattle.event_acts.specs.declared.heard.Heard.TheVariants.{Nothing, IllFormed, Error, EchoRequest, PacketIn}
use Rattle.event_acts.specs.declared.heard.Heard.TheVariants.{FlowRemoved, PortStatus, Flows, Ports, BarrierReply}

-- what comes of it at a switch
abbrev pub comes_of : PolicyOf → ℕ → SwitchOf → Heard → Draft → Draft
comes_of p n x Nothing d = d
comes_of p n x IllFormed d = end_switch n causes.Form d
comes_of p n x Error d = end_switch n causes.Error d
comes_of p n x (EchoRequest xid bytes) d = echoed n xid bytes d
comes_of p n x (PacketIn total_len in_port bytes) d = packet_comes p n total_len in_port bytes d
comes_of p n x (FlowRemoved cookie packets bytes) d =
    removal_reported n x cookie (record { packets = packets; bytes = bytes }) d
comes_of p n x (PortStatus reason port) d = port_reported n reason port d
comes_of p n x (Flows xid more entries) d = part_told p n xid more (replies.Flow entries) d
comes_of p n x (Ports xid more ports) d = part_told p n xid more (replies.Port ports) d
comes_of p n x (BarrierReply xid) d = barrier_replied n x xid d

-- without such a switch nothing
abbrev pub comes_from : PolicyOf → ℕ → Option SwitchOf → Heard → Draft → Draft
comes_from p n None heard d = d
comes_from p n (Some x) heard d = comes_of p n x heard d

abbrev pub acts_on : PolicyOf → ℕ → Heard → Draft → Draft
acts_on p n heard d = comes_from p n (slice_get d.state.switches n) heard d
