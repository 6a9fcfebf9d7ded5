-- A switch comes up under the built-in policy, and its member adds an entry.
use Rattle.std.specs.Prelude.{◌≡◌, refl, [], ◌∷◌, Some, drop}
use Rattle.cv_io.specs.declared.leaf.Who.TheVariants.{Switch}
use Rattle.of10_actions.specs.Reading.{action_at, actions_at}
use Rattle.of10_actions.specs.declared.action.Action.TheVariants.{Output}
use Rattle.of10_match.specs.Fields.{MatchOf}
use Rattle.of10_match.specs.Matching.{everything}
use Rattle.of10_msgs.specs.Reading.{flow_mod_of}
use Rattle.of10_msgs.specs.Spelling.{body_bytes, flow_mod_fields}
use Rattle.of10_msgs.specs.declared.message.Body.TheVariants.{BarrierRequest, SetConfig}
use Rattle.policy_setting.specs.OfPolicies.{seen, sees_its}
use Rattle.switch_state.specs.Messages.{delete_all}
use Rattle.machine_meaning.specs.Drafts.{message}
use Rattle.machine_meaning.specs.Runs.{run_of}
use Rattle.machine_meaning.specs.WorkedPolicies.{built_in}
use Rattle.machine_meaning.specs.WorkedSteps.{added, flow_mod, member_up, of_member, switch_up, waiting_for}

-- the switch is configured and emptied, and gets the entry of a miss
abbrev pub ASwitchComesUp : Type 0
ASwitchComesUp =
    waiting_for (Switch 0) (run_of built_in (switch_up 0 ∷ []))
    ≡ message 1 (SetConfig 0 0xffff) ∷ message 2 delete_all ∷ message 3 BarrierRequest
    ∷ message 4 (added 1 2 everything (Output 0xfffd 0xffff ∷ [])) ∷ message 5 BarrierRequest ∷ []

pub switch_comes_up : ASwitchComesUp
unfolding body_bytes flow_mod_fields seen sees_its
switch_comes_up = refl

-- IPv4 packets to 10.0.0.1 that come by port 1
abbrev pub to_host : MatchOf
to_host =
    record everything
    { in_port = Some 1; dl_type = Some 0x0800; nw_dst = Some (record { addr = 0x0a000001; len = 32 }) }

-- the member's entry, by which they leave by port 2, is written at level 128 under the next cookie, and ended by a
-- barrier
abbrev pub AnEntryIsAdded : Type 0
AnEntryIsAdded =
    drop 5 (waiting_for (Switch 0)
    (run_of built_in (switch_up 0 ∷ member_up 0 ∷ of_member 0 7 (flow_mod 0 32768 to_host (Output 2 0 ∷ [])) ∷ [])))
    ≡ message 6 (added 2 129 to_host (Output 2 0 ∷ [])) ∷ message 7 BarrierRequest ∷ []

pub entry_is_added : AnEntryIsAdded
unfolding body_bytes flow_mod_fields flow_mod_of action_at actions_at seen sees_its
entry_is_added = refl
