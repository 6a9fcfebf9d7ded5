-- An entry that was written twice counts what both cookies counted.
use Rattle.std.specs.Prelude.{◌≡◌, refl, ℕ, false, List, [], ◌∷◌, ◌++◌, drop}
use Rattle.cv_io.specs.declared.leaf.Who.TheVariants.{Member, Switch}
use Rattle.member_replies.specs.Statistics.{messages}
use Rattle.of10_actions.specs.Reading.{action_at, actions_at}
use Rattle.of10_actions.specs.Spelling.{spellings}
use Rattle.of10_actions.specs.declared.action.Action.TheVariants.{Output}
use Rattle.of10_match.specs.Matching.{everything}
use Rattle.of10_match.specs.Wildcards.{match_bytes}
use Rattle.of10_msgs.specs.Reading.{flow_mod_of, flow_removed_of}
use Rattle.of10_msgs.specs.Spelling.{body_bytes, flow_mod_fields}
use Rattle.of10_msgs.specs.declared.message.Body.{Body}
use Rattle.of10_msgs.specs.declared.message.Body.TheVariants.{BarrierReply, BarrierRequest, FlowRemoved, StatsReply}
use Rattle.of10_msgs.specs.declared.message.Body.TheVariants.{StatsRequest}
use Rattle.of10_stats.specs.Parts.{part_replies, parts_at, taken}
use Rattle.of10_stats.specs.Reading.{entry_of, items_at}
use Rattle.of10_stats.specs.Spelling.{entry_with, reply_bytes, request_bytes}
use Rattle.of10_stats.specs.declared.reply.FlowStat.{FlowStat}
use Rattle.of10_stats.specs.declared.reply.ReplyBody.TheVariants.{Flow as FlowReply}
use Rattle.of10_stats.specs.declared.request.StatsRequest.TheVariants.{Flow as FlowRequest}
use Rattle.policy_setting.specs.OfPolicies.{seen, sees_its}
use Rattle.machine_meaning.specs.Drafts.{message}
use Rattle.machine_meaning.specs.Runs.{run_of}
use Rattle.machine_meaning.specs.WorkedEntries.{to_host}
use Rattle.machine_meaning.specs.WorkedPolicies.{built_in}
use Rattle.machine_meaning.specs.WorkedSteps.{added, deleted, flow_mod, member_up, of_member, of_switch, switch_up}
use Rattle.machine_meaning.specs.WorkedSteps.{waiting_for}
use Rattle.events.specs.declared.event.Event.{Event}

-- a request for the numbers of all entries
abbrev pub asking : Body
asking = StatsRequest (request_bytes (FlowRequest (match_bytes everything) 0xff 0xffff))

-- the numbers of one entry
abbrev pub numbers : ℕ → ℕ → ℕ → FlowStat
numbers cookie packets bytes = record {
  table_id = 0;
  m = match_bytes to_host;
  duration_sec = 0;
  duration_nsec = 0;
  priority = 32768;
  idle = 0;
  hard = 0;
  cookie = cookie;
  packets = packets;
  bytes = bytes;
  actions = spellings (Output 3 0 ∷ []);
}

-- a part of a switch's answer, which is the last
abbrev pub told : List FlowStat → Body
told entries = StatsReply (reply_bytes (record { more = false; body = FlowReply entries }))

-- an entry is added and gets another action, so that its cookie goes; the switch reports that removal
abbrev pub modified : List Event
modified =
    switch_up 0 ∷ member_up 0 ∷ of_switch 0 3 BarrierReply ∷ of_member 0 7 (flow_mod 0 32768 to_host (Output 2 0 ∷ []))
    ∷ of_member 0 8 (flow_mod 2 32768 to_host (Output 3 0 ∷ []))
    ∷ of_switch 0 0 (FlowRemoved (match_bytes to_host) 2 129 2 0 0 0 7 700) ∷ []

-- the member asks for its numbers, and the switch is polled
abbrev pub polled : List Event
polled = modified ++ of_member 0 9 asking ∷ []

abbrev pub AnEntryIsReplaced : Type 0
AnEntryIsReplaced =
    drop 7 (waiting_for (Switch 0) (run_of built_in polled))
    ≡ message 8 (deleted 2 129 to_host) ∷ message 9 BarrierRequest ∷ message 10 (added 3 129 to_host (Output 3 0 ∷ []))
    ∷ message 11 BarrierRequest
    ∷ message 12 asking ∷ []

pub entry_is_replaced : AnEntryIsReplaced
unfolding body_bytes flow_mod_fields flow_mod_of flow_removed_of action_at actions_at seen sees_its
entry_is_replaced = refl

-- the switch tells the numbers of the new cookie; the member is told those of both
abbrev pub TwoCookiesAreCounted : Type 0
TwoCookiesAreCounted =
    waiting_for (Member 0) (run_of built_in (polled ++ of_switch 0 12 (told (numbers 3 3 300 ∷ [])) ∷ []))
    ≡ messages 9 (FlowReply (numbers 0 10 1000 ∷ []))

pub two_cookies_counted : TwoCookiesAreCounted
unfolding body_bytes flow_mod_fields flow_mod_of flow_removed_of action_at actions_at taken parts_at part_replies
    items_at entry_of entry_with seen sees_its
two_cookies_counted = refl
