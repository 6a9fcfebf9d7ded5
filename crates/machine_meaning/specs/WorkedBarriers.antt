-- A member's barrier waits for those of three switches.
use Rattle.std.specs.Prelude.{◌≡◌, refl, ℕ, true, false, List, [], ◌∷◌, ◌++◌}
use Rattle.cv_io.specs.declared.leaf.Who.TheVariants.{Member, Switch}
use Rattle.member_replies.specs.Switches.{port_changed}
use Rattle.of10_actions.specs.Reading.{action_at, actions_at}
use Rattle.of10_actions.specs.declared.action.Action.TheVariants.{Output}
use Rattle.of10_match.specs.Matching.{everything}
use Rattle.of10_msgs.specs.Reading.{flow_mod_of, port_at}
use Rattle.of10_msgs.specs.Spelling.{body_bytes, flow_mod_fields, port_bytes}
use Rattle.of10_msgs.specs.declared.message.Body.TheVariants.{BarrierReply, BarrierRequest}
use Rattle.policy_setting.specs.OfPolicies.{seen, sees_its}
use Rattle.machine_meaning.specs.Drafts.{message}
use Rattle.machine_meaning.specs.Runs.{run_of}
use Rattle.machine_meaning.specs.Ways.{switches_of}
use Rattle.machine_meaning.specs.WorkedPolicies.{built_in, spread}
use Rattle.machine_meaning.specs.WorkedSteps.{flow_mod, member_up, of_member, of_switch, switch_up, waiting_for}
use Rattle.events.specs.declared.event.Event.{Event}
use Rattle.events.specs.declared.event.Event.TheVariants.{Gone}

-- the switches of the virtual switch that is spread
abbrev pub ThreeSwitches : Type 0
ThreeSwitches = (switches_of spread 0 ≡ 0 ∷ 1 ∷ 2 ∷ []) × (switches_of built_in 0 ≡ 0 ∷ [])

pub three_switches : ThreeSwitches
three_switches = (refl, refl)

-- a switch answers the barrier of an xid
abbrev pub answers : ℕ → ℕ → Event
answers n xid = of_switch n xid BarrierReply

-- all come up, the switches answer their installations, and the member adds an entry that each switch is written
abbrev pub all_up : List Event
all_up = switch_up 0 ∷ switch_up 1 ∷ switch_up 2 ∷ member_up 0 ∷ []

abbrev pub installed : List Event
installed = answers 0 3 ∷ answers 0 10 ∷ answers 1 3 ∷ answers 1 11 ∷ answers 2 3 ∷ answers 2 7 ∷ []

-- then it asks for a barrier, and all but the second switch answer theirs
abbrev pub asked : List Event
asked =
    of_member 0 5 (flow_mod 0 32768 everything (Output 2 0 ∷ [])) ∷ of_member 0 6 BarrierRequest ∷ answers 0 13
    ∷ answers 2 9 ∷ []

abbrev pub before : List Event
before = all_up ++ (installed ++ asked)

-- the reply comes with the last answer; or as that switch goes, after the state of its port
abbrev pub ABarrierWaits : Type 0
ABarrierWaits =
    (waiting_for (Member 0) (run_of spread before) ≡ [])
    × (waiting_for (Member 0) (run_of spread (before ++ answers 1 13 ∷ [])) ≡ message 6 BarrierReply ∷ [])
    × (waiting_for (Member 0) (run_of spread (before ++ Gone (record { who = Switch 1; round = 1 }) ∷ []))
    ≡ message 0 (port_changed 0 2 false true) ∷ message 6 BarrierReply ∷ [])

pub barrier_waits : ABarrierWaits
unfolding body_bytes flow_mod_fields port_bytes flow_mod_of port_at action_at actions_at seen sees_its
barrier_waits = (refl, refl, refl)
