-- A frame does what it tells.
use Rattle.std.proofs.Common.{◌≡◌, ℕ, Bool, true, false, List, Option, Some, None, Result, Ok, Err, refl}
use Rattle.std.specs.Prelude.{if◌then◌else◌, slice_get}
use Rattle.of10_msgs.specs.Reading.{reading}
use Rattle.of10_msgs.specs.declared.fault.FormFault.{FormFault}
use Rattle.of10_msgs.specs.declared.message.Body.{Body}
use Rattle.of10_msgs.specs.declared.message.Body.TheVariants as bodies
use Rattle.of10_msgs.specs.declared.message.Message.{Message}
use Rattle.of10_stats.specs.Reading.{reply_in}
use Rattle.of10_stats.specs.declared.fault.StatsFault.{StatsFault}
use Rattle.of10_stats.specs.declared.reply.ReplyBody.{ReplyBody}
use Rattle.of10_stats.specs.declared.reply.ReplyBody.TheVariants as replies
use Rattle.of10_stats.specs.declared.reply.StatsReply.{StatsReply}
use Rattle.policies.specs.Policies.{PolicyOf}
use Rattle.machine_meaning.specs.Drafts.{Draft}
use Rattle.event_acts.specs.Heard.{body_heard, heard_in, part_heard, read_heard, reply_heard}
use Rattle.event_acts.specs.HeardActs.{acts_on, comes_from, comes_of}
use Rattle.machine_meaning.specs.Parts.{part_told}
use Rattle.machine_meaning.specs.States.{SwitchOf}
use Rattle.machine_meaning.specs.SwitchMessages.{hears, hears_from, hears_read, hears_switch, is_ignored}
use Rattle.machine_meaning.specs.SwitchMessages.{statistics_told}
use Rattle.event_acts.specs.declared.heard.Heard.TheVariants.{Nothing}

module _ (p : PolicyOf) (n : ℕ) (x : SwitchOf) (d : Draft) where
  part_acts : (xid : ℕ) (more : Bool) (body : ReplyBody)
      → part_told p n xid more body d ≡ comes_of p n x (part_heard xid more body) d
  part_acts xid more (replies.Desc texts) = refl
  part_acts xid more (replies.Flow entries) = refl
  part_acts xid more (replies.Aggregate packets bytes flows) = refl
  part_acts xid more (replies.Table table_id name wildcards max_entries active lookup matched) = refl
  part_acts xid more (replies.Port ports) = refl

  reply_acts : (xid : ℕ) (reply : Result StatsReply StatsFault)
      → statistics_told p n xid reply d ≡ comes_of p n x (reply_heard xid reply) d
  reply_acts xid (Ok reply) = part_acts xid reply.more reply.body
  reply_acts xid (Err fault) = refl

  body_acts : (xid : ℕ) (body : Body) → hears p n x xid body d ≡ comes_of p n x (body_heard xid body) d
  body_acts xid (bodies.Hello bytes) = refl
  body_acts xid (bodies.Error kind code bytes) = refl
  body_acts xid (bodies.EchoRequest bytes) = refl
  body_acts xid (bodies.EchoReply bytes) = refl
  body_acts xid bodies.FeaturesRequest = refl
  body_acts xid (bodies.FeaturesReply datapath_id n_buffers n_tables capabilities actions ports) = refl
  body_acts xid bodies.GetConfigRequest = refl
  body_acts xid (bodies.GetConfigReply flags miss_send_len) = refl
  body_acts xid (bodies.SetConfig flags miss_send_len) = refl
  body_acts xid (bodies.PacketIn buffer_id total_len in_port reason bytes) = refl
  body_acts xid
      (bodies.FlowRemoved m cookie priority reason duration_sec duration_nsec idle_timeout packet_count byte_count) =
      refl
  body_acts xid (bodies.PortStatus reason port) = refl
  body_acts xid (bodies.PacketOut sent) = refl
  body_acts xid (bodies.FlowMod change) = refl
  body_acts xid (bodies.PortMod bytes) = refl
  body_acts xid (bodies.StatsRequest body) = refl
  body_acts xid (bodies.StatsReply body) = reply_acts xid (reply_in body)
  body_acts xid bodies.BarrierRequest = refl
  body_acts xid bodies.BarrierReply = refl
  body_acts xid (bodies.QueueGetConfigRequest bytes) = refl
  body_acts xid (bodies.QueueGetConfigReply bytes) = refl

  read_acts : (read : Result Message FormFault) → hears_read p n x read d ≡ comes_of p n x (read_heard read) d
  read_acts (Ok m) = body_acts m.xid m.body
  read_acts (Err fault) = refl

  frame_acts : (ignored : Bool) (read : Result Message FormFault)
      → (if ignored then d else hears_read p n x read d)
      ≡ comes_of p n x (if ignored then Nothing else read_heard read) d
  frame_acts true read = refl
  frame_acts false read = read_acts read

from_acts : (p : PolicyOf) (n : ℕ) (x : Option SwitchOf) (frame : List ℕ) (d : Draft)
    → hears_from p n x frame d ≡ comes_from p n x (heard_in frame) d
from_acts p n None frame d = refl
from_acts p n (Some x) frame d = frame_acts p n x d (is_ignored frame) (reading frame)

pub frames_act : (p : PolicyOf) (n : ℕ) (frame : List ℕ) (d : Draft)
    → hears_switch p n frame d ≡ acts_on p n (heard_in frame) d
frames_act p n frame d = from_acts p n (slice_get d.state.switches n) frame d
