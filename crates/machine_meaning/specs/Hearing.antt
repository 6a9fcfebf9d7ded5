-- What the frame of a switch tells of counts is heard first, whatever comes of the event.
use Rattle.std.specs.Prelude.{ℕ, Bool, true, false, List, [], ◌∷◌, Option, Some, None, Result, Ok, Err, fold}
use Rattle.std.specs.Prelude.{if◌then◌else◌, map, slice_get}
use Rattle.std.specs.List.{list_any}
use Rattle.cv_io.specs.declared.leaf.Who.{Who}
use Rattle.cv_io.specs.declared.leaf.Who.TheVariants.{Switch}
use Rattle.of10_msgs.specs.Reading.{reading}
use Rattle.of10_msgs.specs.declared.fault.FormFault.{FormFault}
use Rattle.of10_msgs.specs.declared.message.Body.{Body}
use Rattle.of10_msgs.specs.declared.message.Body.TheVariants as bodies
use Rattle.of10_msgs.specs.declared.message.Message.{Message}
use Rattle.of10_stats.specs.Reading.{reply_in}
use Rattle.of10_stats.specs.declared.fault.StatsFault.{StatsFault}
use Rattle.of10_stats.specs.declared.reply.FlowStat.{FlowStat}
use Rattle.of10_stats.specs.declared.reply.ReplyBody.{ReplyBody}
use Rattle.of10_stats.specs.declared.reply.ReplyBody.TheVariants as replies
use Rattle.of10_stats.specs.declared.reply.StatsReply.{StatsReply}
use Rattle.stats_map.specs.Counting.{CountsOf, Place, reported}
use Rattle.switch_meaning.specs.Counts.{Numbers}
use Rattle.switch_state.specs.Reports.{removal}
use Rattle.switch_state.specs.declared.removal.Removal.{Removal}
use Rattle.switch_state.specs.declared.removal.Removal.TheVariants.{Taken}
use Rattle.waitings.specs.Waitings.{waits_for_flows}
use Rattle.machine_meaning.specs.States.{State, SwitchOf}
use Rattle.machine_meaning.specs.SwitchMessages.{is_ignored}
use Rattle.events.specs.declared.event.Event.{Event}
use Rattle.events.specs.declared.event.Event.TheVariants.{Msg}

-- what a switch reports of a cookie: its numbers, and whether they are the last since its entry was removed
pub record Report : Type 0 where
  pub place : Place
  pub numbers : Numbers
  pub last : Bool

-- an entry's numbers, in an answer to a poll
abbrev pub flow_report : ℕ → FlowStat → Report
flow_report n e =
    record { place = (n, e.cookie); numbers = record { packets = e.packets; bytes = e.bytes }; last = false }

-- a part of an answer reports of its entries, if a poll of entries waits for it
abbrev pub reports_in_part : State → ℕ → ℕ → ReplyBody → List Report
reports_in_part s n xid (replies.Flow entries) =
    if list_any (waits_for_flows n xid) s.waiting then map (flow_report n) entries else []
reports_in_part s n xid body = []

abbrev pub reports_in_reply : State → ℕ → ℕ → Result StatsReply StatsFault → List Report
reports_in_reply s n xid (Ok reply) = reports_in_part s n xid reply.body
reports_in_reply s n xid (Err fault) = []

-- a removal that is taken reports the last numbers of its cookie
abbrev pub reports_in_removal : Removal → Place → Numbers → List Report
reports_in_removal Taken place numbers = record { place = place; numbers = numbers; last = true } ∷ []
reports_in_removal other place numbers = []

-- what a message reports of cookies
abbrev pub reports_in_body : State → ℕ → SwitchOf → ℕ → Body → List Report
reports_in_body s n x xid
    (bodies.FlowRemoved m cookie priority reason duration_sec duration_nsec idle_timeout packet_count byte_count) =
    reports_in_removal (removal x.known cookie) (n, cookie) (record { packets = packet_count; bytes = byte_count })
reports_in_body s n x xid (bodies.StatsReply body) = reports_in_reply s n xid (reply_in body)
reports_in_body s n x xid body = []

abbrev pub reports_in_read : State → ℕ → SwitchOf → Result Message FormFault → List Report
reports_in_read s n x (Ok m) = reports_in_body s n x m.xid m.body
reports_in_read s n x (Err fault) = []

-- what a frame reports of cookies
abbrev pub reports_in_frame : State → ℕ → Option SwitchOf → List ℕ → List Report
reports_in_frame s n None frame = []
reports_in_frame s n (Some x) frame = if is_ignored frame then [] else reports_in_read s n x (reading frame)

abbrev pub reports_from : State → Who → List ℕ → List Report
reports_from s (Switch n) frame = reports_in_frame s n (slice_get s.switches n) frame
reports_from s who frame = []

-- what an event reports of cookies
abbrev pub reports_in : State → Event → List Report
reports_in s (Msg session frame) = reports_from s session.who frame
reports_in s e = []

-- counts with the numbers of a report
abbrev pub counts_told : CountsOf → Report → CountsOf
counts_told counts r = reported r.place r.numbers false counts

-- the state in which an event acts: what it reports of cookies is counted
abbrev pub heard : State → Event → State
heard s e = record s { counts = fold counts_told s.counts (reports_in s e) }
