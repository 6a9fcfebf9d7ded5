-- What a switch answers (sections 5.3.5, 5.3.7 and 5.4.2 of the OpenFlow Switch Specification 1.0.0).
use Rattle.std.specs.Prelude.{ℕ, ◌==◌, ◌||◌, Bool, true, false, List, [], ◌∷◌, Option, Some, Result, Ok}
use Rattle.std.specs.Prelude.{filter, flat_map, map, if◌then◌else◌}
use Rattle.of10_actions.specs.Numbers.{NONE}
use Rattle.of10_actions.specs.Spelling.{spellings}
use Rattle.of10_match.specs.Wildcards.{normal_of}
use Rattle.of10_msgs.specs.Commands.{command_at}
use Rattle.of10_msgs.specs.Numbers.{REMOVED}
use Rattle.of10_msgs.specs.declared.command.Command.{Command}
use Rattle.of10_msgs.specs.declared.command.Command.TheVariants as commands
use Rattle.of10_msgs.specs.declared.message.Body.{Body}
use Rattle.of10_msgs.specs.declared.message.Body.TheVariants.{FlowRemoved, FlowMod, StatsRequest, BarrierRequest}
use Rattle.of10_msgs.specs.declared.message.Body.TheVariants.{BarrierReply}
use Rattle.of10_msgs.specs.declared.message.FlowMod.{FlowMod as FlowModOf}
use Rattle.of10_msgs.specs.declared.message.Message.{Message}
use Rattle.of10_stats.specs.Reading.{request_in}
use Rattle.of10_stats.specs.declared.fault.StatsFault.{StatsFault}
use Rattle.of10_stats.specs.declared.reply.FlowStat.{FlowStat}
use Rattle.of10_stats.specs.declared.reply.PortStat.{PortStat}
use Rattle.of10_stats.specs.declared.reply.ReplyBody.{ReplyBody}
use Rattle.of10_stats.specs.declared.reply.ReplyBody.TheVariants as replies
use Rattle.of10_stats.specs.declared.request.StatsRequest.{StatsRequest as RequestOf}
use Rattle.of10_stats.specs.declared.request.StatsRequest.TheVariants as requests
use Rattle.soft_net.specs.Changes.{selection_in}
use Rattle.soft_net.specs.Entries.{asks_removal}
use Rattle.soft_net.specs.Tables.{TableOf, is_selected}
use Rattle.soft_net.specs.declared.answer.Answer.{Answer}
use Rattle.soft_net.specs.declared.answer.Answer.TheVariants as answers
use Rattle.soft_net.specs.declared.entry.SoftEntry.{SoftEntry}
use Rattle.soft_net.specs.declared.selection.Selection.TheVariants.{Covered}

-- the FLOW_REMOVED of an entry that was deleted, with its counts
abbrev pub removal : SoftEntry → Message
removal e = record { xid = 0; body = FlowRemoved e.raw e.cookie e.flow.priority REMOVED 0 0 0 e.packets e.bytes }

-- what statistics tell of an entry
abbrev pub stat : SoftEntry → FlowStat
stat e = record {
  table_id = 0;
  m = e.raw;
  duration_sec = 0;
  duration_nsec = 0;
  priority = e.flow.priority;
  idle = 0;
  hard = 0;
  cookie = e.cookie;
  packets = e.packets;
  bytes = e.bytes;
  actions = spellings e.flow.actions;
}

-- a FLOW_REMOVED for each that goes and asks for one
abbrev pub removal_of : SoftEntry → List Answer
removal_of e = if asks_removal e then answers.Message (removal e) ∷ [] else []

-- those of entries that went
abbrev pub removals : List SoftEntry → List Answer
removals gone = flat_map removal_of gone

-- what a command answers: a deletion tells what went
abbrev pub answers_to_command : Option Command → TableOf → FlowModOf → List Answer
answers_to_command (Some commands.Delete) t m = removals (filter (is_selected (selection_in false m) m.out_port) t.entries)
answers_to_command (Some commands.DeleteStrict) t m = removals (filter (is_selected (selection_in true m) m.out_port) t.entries)
answers_to_command _ t m = []

-- one reply with statistics
abbrev pub replied : ℕ → ReplyBody → List Answer
replied xid body = answers.Statistics xid (record { more = false; body = body }) ∷ []

-- the only table has number 0, and 255 asks for all
abbrev pub is_here : ℕ → Bool
is_here table_id = (table_id == 0) || (table_id == 255)

-- the entries that a request for FLOW asks for
abbrev pub asked_entries : TableOf → List ℕ → ℕ → ℕ → List SoftEntry
asked_entries t m table_id out_port =
    if is_here table_id then filter (is_selected (Covered (normal_of m)) out_port) t.entries else []

-- a request for PORT asks for one, or for all
abbrev pub is_asked : ℕ → PortStat → Bool
is_asked port_no p = (port_no == NONE) || (port_no == p.port_no)

-- the port, where it is asked for
abbrev pub asked_port : ℕ → PortStat → List PortStat
asked_port port_no p = if is_asked port_no p then p ∷ [] else []

-- what a request for statistics is answered: those of FLOW and PORT are
abbrev pub answers_to_request : TableOf → List PortStat → ℕ → Result RequestOf StatsFault → List Answer
answers_to_request t ports xid (Ok (requests.Flow m table_id out_port)) =
    replied xid (replies.Flow (map stat (asked_entries t m table_id out_port)))
answers_to_request t ports xid (Ok (requests.Port port_no)) = replied xid (replies.Port (filter (is_asked port_no) ports))
answers_to_request t ports xid _ = []

-- what a message is answered; a PACKET_OUT is another matter, and all else is passed over
abbrev pub answers_to : TableOf → List PortStat → Message → List Answer
answers_to t ports message = by_body message.body
  where
    by_body : Body → List Answer
    by_body (FlowMod m) = answers_to_command (command_at m.command) t m
    by_body BarrierRequest = answers.Message (record { xid = message.xid; body = BarrierReply }) ∷ []
    by_body (StatsRequest body) = answers_to_request t ports message.xid (request_in body)
    by_body _ = []
