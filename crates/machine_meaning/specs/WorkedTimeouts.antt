-- Entries whose time is up.
use Rattle.std.specs.Prelude.{◌≡◌, refl, List, [], ◌∷◌, ◌++◌, drop}
use Rattle.cv_io.specs.declared.leaf.Who.TheVariants.{Member, Switch}
use Rattle.of10_actions.specs.Reading.{action_at, actions_at}
use Rattle.of10_actions.specs.declared.action.Action.TheVariants.{Output}
use Rattle.of10_match.specs.Wildcards.{match_bytes}
use Rattle.of10_msgs.specs.Reading.{flow_mod_of, flow_removed_of}
use Rattle.of10_msgs.specs.Spelling.{body_bytes, flow_mod_fields}
use Rattle.of10_msgs.specs.declared.message.Body.{Body}
use Rattle.of10_msgs.specs.declared.message.Body.TheVariants.{BarrierReply, BarrierRequest, FlowMod, FlowRemoved}
use Rattle.of10_stats.specs.Reading.{entry_of, items_at}
use Rattle.of10_stats.specs.Spelling.{entry_with}
use Rattle.policy_setting.specs.OfPolicies.{seen, sees_its}
use Rattle.machine_meaning.specs.Drafts.{message}
use Rattle.machine_meaning.specs.Runs.{run_of}
use Rattle.machine_meaning.specs.WorkedCounts.{asking, numbers, told}
use Rattle.machine_meaning.specs.WorkedEntries.{to_host}
use Rattle.machine_meaning.specs.WorkedPolicies.{built_in}
use Rattle.machine_meaning.specs.WorkedSteps.{deleted, member_up, of_member, of_switch, switch_up, waiting_for}
use Rattle.events.specs.declared.event.Event.{Event}
use Rattle.events.specs.declared.event.Event.TheVariants.{Tick}

-- an entry that goes after 10 seconds without a packet, and after 30 in any case, of which the member is told
abbrev pub timed : Body
timed = FlowMod (record {
  m = match_bytes to_host;
  cookie = 9;
  command = 0;
  idle_timeout = 10;
  hard_timeout = 30;
  priority = 32768;
  buffer_id = 0xffffffff;
  out_port = 0xffff;
  flags = 1;
  actions = Output 2 0 ∷ [];
})

-- it is added at the moment 100
abbrev pub begun : List Event
begun = switch_up 0 ∷ member_up 0 ∷ of_switch 0 3 BarrierReply ∷ Tick 100 ∷ of_member 0 7 timed ∷ []

-- at the moment 110 the switch is polled
abbrev pub doubted : List Event
doubted = begun ++ Tick 110 ∷ []

abbrev pub AnIdleEntryIsPolled : Type 0
AnIdleEntryIsPolled = drop 7 (waiting_for (Switch 0) (run_of built_in doubted)) ≡ message 8 asking ∷ []

pub idle_polled : AnIdleEntryIsPolled
unfolding body_bytes flow_mod_fields flow_mod_of action_at actions_at seen sees_its
idle_polled = refl

-- it tells no packets of the entry: that is removed, and the member is told as the switch reports the removal
abbrev pub idled : List Event
idled = doubted ++ of_switch 0 8 (told []) ∷ []

abbrev pub AnIdleEntryGoes : Type 0
AnIdleEntryGoes =
    (drop 8 (waiting_for (Switch 0) (run_of built_in idled)) ≡ message 9 (deleted 2 129 to_host)
    ∷ message 10 BarrierRequest ∷ [])
    × (waiting_for (Member 0) (run_of built_in idled) ≡ [])
    × (waiting_for (Member 0)
    (run_of built_in (idled ++ of_switch 0 0 (FlowRemoved (match_bytes to_host) 2 129 2 0 0 0 7 700) ∷ []))
    ≡ message 0 (FlowRemoved (match_bytes to_host) 9 32768 0 10 0 10 7 700) ∷ [])

pub idle_goes : AnIdleEntryGoes
unfolding body_bytes flow_mod_fields flow_mod_of flow_removed_of action_at actions_at items_at entry_of seen sees_its
idle_goes = (refl, refl, refl)

-- it tells one: the entry stays until its hard timeout
abbrev pub used : List Event
used = doubted ++ of_switch 0 8 (told (numbers 2 1 100 ∷ [])) ∷ []

abbrev pub AUsedEntryGoesLater : Type 0
AUsedEntryGoesLater =
    (drop 8 (waiting_for (Switch 0) (run_of built_in (used ++ Tick 119 ∷ []))) ≡ [])
    × (drop 8 (waiting_for (Switch 0) (run_of built_in (used ++ Tick 130 ∷ []))) ≡ message 9 (deleted 2 129 to_host)
    ∷ message 10 BarrierRequest ∷ [])

pub used_goes_later : AUsedEntryGoesLater
unfolding body_bytes flow_mod_fields flow_mod_of action_at actions_at items_at entry_of entry_with seen sees_its
used_goes_later = (refl, refl)
