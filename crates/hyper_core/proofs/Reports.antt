-- What is taken over of a frame is what it reports.
use Rattle.std.proofs.Common.{◌≡◌, ℕ, Bool, true, false, List, [], ◌∷◌, Some, Result, Ok, Err, map, refl}
use Rattle.std.specs.Prelude.{fold, if◌then◌else◌}
use Rattle.std.specs.List.{list_any}
use Rattle.of10_msgs.specs.Reading.{reading}
use Rattle.of10_msgs.specs.declared.fault.FormFault.{FormFault}
use Rattle.of10_msgs.specs.declared.message.Body.{Body}
use Rattle.of10_msgs.specs.declared.message.Body.TheVariants as bodies
use Rattle.of10_msgs.specs.declared.message.Message.{Message}
use Rattle.of10_stats.specs.Reading.{reply_in}
use Rattle.of10_stats.specs.declared.fault.StatsFault.{StatsFault}
use Rattle.of10_stats.specs.declared.reply.FlowStat.{FlowStat}
use Rattle.of10_stats.specs.declared.reply.ReplyBody.{ReplyBody}
use Rattle.of10_stats.specs.declared.reply.ReplyBody.TheVariants as replies
use Rattle.of10_stats.specs.declared.reply.StatsReply.{StatsReply}
use Rattle.stats_map.specs.Counting.{CountsOf, reported}
use Rattle.switch_state.specs.Reports.{removal}
use Rattle.switch_state.specs.declared.removal.Removal.{Removal}
use Rattle.switch_state.specs.declared.removal.Removal.TheVariants.{Ignored, Strange, Taken}
use Rattle.event_acts.specs.CookieCounts.{counts_in, entry_count, removal_counts, with_count, with_counts}
use Rattle.event_acts.specs.Heard.{body_heard, heard_in, part_heard, read_heard, reply_heard}
use Rattle.machine_meaning.specs.Hearing.{counts_told, flow_report, reports_in_body, reports_in_frame, reports_in_part}
use Rattle.machine_meaning.specs.Hearing.{reports_in_read, reports_in_removal, reports_in_reply}
use Rattle.waitings.specs.Waitings.{waits_for_flows}
use Rattle.machine_meaning.specs.States.{State, SwitchOf}
use Rattle.machine_meaning.specs.SwitchMessages.{is_ignored}
use Rattle.event_acts.specs.declared.heard.Heard.TheVariants.{Nothing}

-- the numbers of entries
entries_alike : (n : ℕ) (es : List FlowStat) (counts : CountsOf)
    → fold counts_told counts (map (flow_report n) es) ≡ fold (with_count n) counts (map entry_count es)
entries_alike n [] counts = refl
entries_alike n (e ∷ es) counts =
    entries_alike n es
    (reported (n, e.cookie) (record { packets = e.packets; bytes = e.bytes }) false counts)

flows_alike : (awaited : Bool) (n : ℕ) (es : List FlowStat) (counts : CountsOf)
    → fold counts_told counts (if awaited then map (flow_report n) es else [])
    ≡ fold (with_count n) counts (if awaited then map entry_count es else [])
flows_alike true n es counts = entries_alike n es counts
flows_alike false n es counts = refl

-- those of a removal
removal_alike : (r : Removal) (n cookie packets bytes : ℕ) (counts : CountsOf)
    → fold counts_told counts (reports_in_removal r (n, cookie) (record { packets = packets; bytes = bytes }))
    ≡ fold (with_count n) counts (removal_counts r (record { cookie = cookie; packets = packets; bytes = bytes }))
removal_alike Taken n cookie packets bytes counts = refl
removal_alike Ignored n cookie packets bytes counts = refl
removal_alike Strange n cookie packets bytes counts = refl

module _ (s : State) (n : ℕ) (x : SwitchOf) (counts : CountsOf) where
  part_alike : (xid : ℕ) (more : Bool) (body : ReplyBody)
      → fold counts_told counts (reports_in_part s n xid body)
      ≡ with_counts n (counts_in s.waiting x.known n (part_heard xid more body)) counts
  part_alike xid more (replies.Desc texts) = refl
  part_alike xid more (replies.Flow entries) =
      flows_alike (list_any (waits_for_flows n xid) s.waiting) n entries counts
  part_alike xid more (replies.Aggregate packets bytes flows) = refl
  part_alike xid more (replies.Table table_id name wildcards max_entries active lookup matched) = refl
  part_alike xid more (replies.Port ports) = refl

  reply_alike : (xid : ℕ) (reply : Result StatsReply StatsFault)
      → fold counts_told counts (reports_in_reply s n xid reply)
      ≡ with_counts n (counts_in s.waiting x.known n (reply_heard xid reply)) counts
  reply_alike xid (Ok reply) = part_alike xid reply.more reply.body
  reply_alike xid (Err fault) = refl

  body_alike : (xid : ℕ) (body : Body)
      → fold counts_told counts (reports_in_body s n x xid body)
      ≡ with_counts n (counts_in s.waiting x.known n (body_heard xid body)) counts
  body_alike xid (bodies.Hello bytes) = refl
  body_alike xid (bodies.Error kind code bytes) = refl
  body_alike xid (bodies.EchoRequest bytes) = refl
  body_alike xid (bodies.EchoReply bytes) = refl
  body_alike xid bodies.FeaturesRequest = refl
  body_alike xid (bodies.FeaturesReply datapath_id n_buffers n_tables capabilities actions ports) = refl
  body_alike xid bodies.GetConfigRequest = refl
  body_alike xid (bodies.GetConfigReply flags miss_send_len) = refl
  body_alike xid (bodies.SetConfig flags miss_send_len) = refl
  body_alike xid (bodies.PacketIn buffer_id total_len in_port reason bytes) = refl
  body_alike xid
      (bodies.FlowRemoved m cookie priority reason duration_sec duration_nsec idle_timeout packet_count byte_count) =
      removal_alike (removal x.known cookie) n cookie packet_count byte_count counts
  body_alike xid (bodies.PortStatus reason port) = refl
  body_alike xid (bodies.PacketOut sent) = refl
  body_alike xid (bodies.FlowMod change) = refl
  body_alike xid (bodies.PortMod bytes) = refl
  body_alike xid (bodies.StatsRequest body) = refl
  body_alike xid (bodies.StatsReply body) = reply_alike xid (reply_in body)
  body_alike xid bodies.BarrierRequest = refl
  body_alike xid bodies.BarrierReply = refl
  body_alike xid (bodies.QueueGetConfigRequest bytes) = refl
  body_alike xid (bodies.QueueGetConfigReply bytes) = refl

  read_alike : (read : Result Message FormFault)
      → fold counts_told counts (reports_in_read s n x read)
      ≡ with_counts n (counts_in s.waiting x.known n (read_heard read)) counts
  read_alike (Ok m) = body_alike m.xid m.body
  read_alike (Err fault) = refl

  frame_alike : (ignored : Bool) (read : Result Message FormFault)
      → fold counts_told counts (if ignored then [] else reports_in_read s n x read)
      ≡ with_counts n (counts_in s.waiting x.known n (if ignored then Nothing else read_heard read)) counts
  frame_alike true read = refl
  frame_alike false read = read_alike read

pub counts_are_reported : (s : State) (n : ℕ) (x : SwitchOf) (frame : List ℕ) (counts : CountsOf)
    → fold counts_told counts (reports_in_frame s n (Some x) frame)
    ≡ with_counts n (counts_in s.waiting x.known n (heard_in frame)) counts
counts_are_reported s n x frame counts = frame_alike s n x counts (is_ignored frame) (reading frame)
