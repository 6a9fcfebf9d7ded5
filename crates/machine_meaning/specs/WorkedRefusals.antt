-- Messages that are refused: the sender gets an ERROR, the audit a line, and nothing else changes.
use Rattle.std.specs.Prelude.{◌≡◌, refl, ℕ, List, [], ◌∷◌, ◌++◌, Some, codes, decimal, drop, false, true}
use Rattle.cv_io.specs.declared.leaf.Who.TheVariants.{Member}
use Rattle.of10_actions.specs.Reading.{action_at, actions_at}
use Rattle.of10_actions.specs.declared.action.Action.TheVariants.{Output}
use Rattle.of10_frames.specs.Wire.{error_bytes}
use Rattle.of10_match.specs.Matching.{everything}
use Rattle.of10_msgs.specs.Reading.{flow_mod_of}
use Rattle.of10_msgs.specs.Spelling.{body_bytes, flow_mod_fields}
use Rattle.of10_msgs.specs.declared.message.Body.{Body}
use Rattle.policies.specs.Policies.{PolicyOf}
use Rattle.policy_setting.specs.OfPolicies.{seen, sees_its}
use Rattle.machine_meaning.specs.Drafts.{message}
use Rattle.machine_meaning.specs.Runs.{run_of}
use Rattle.machine_meaning.specs.States.{State}
use Rattle.machine_meaning.specs.WorkedPolicies.{built_in, granting, member_of, on_one_switch}
use Rattle.machine_meaning.specs.WorkedSteps.{flow_mod, from_net, member_up, of_member, to_net, waiting_for}
use Rattle.events.specs.declared.event.Event.{Event}
use Rattle.events.specs.declared.event.Event.TheVariants.{Msg}

-- a second entry of one rank whose match overlaps
abbrev pub to_ten : Body
to_ten = flow_mod 0 100 (to_net 0x0a000000 8) (Output 2 0 ∷ [])

abbrev pub from_ten : Body
from_ten = flow_mod 0 100 (from_net 0x0a000000 8) (Output 2 0 ∷ [])

abbrev pub with_first : List Event
with_first = member_up 0 ∷ of_member 0 32 to_ten ∷ []

abbrev pub overlapping : State
overlapping = run_of built_in (with_first ++ of_member 0 33 from_ten ∷ [])

abbrev pub AnOverlapIsRefused : Type 0
AnOverlapIsRefused =
    (waiting_for (Member 0) overlapping ≡ error_bytes 3 1 (message 33 from_ten) ∷ [])
    × (overlapping.audit
    ≡ (codes "deny ctl=app vsw=v1 xid=" ++ (decimal 33 ++ (codes " rule=overlap with=" ++ decimal 1))) ∷ [])

pub overlap_refused : AnOverlapIsRefused
unfolding body_bytes flow_mod_fields flow_mod_of action_at actions_at seen sees_its
overlap_refused = (refl, refl)

-- a member that sees two of the four ports
abbrev pub seeing_two : PolicyOf
seeing_two =
    on_one_switch (codes "app")
    (member_of (codes "app") 3
    (record (granting 1 true false) { ports = record { v = 0; outside = 1 ∷ 2 ∷ []; links = [] } }) ∷ [])

-- an entry for packets that come by a port that it doesn't see
abbrev pub by_hidden : Body
by_hidden = flow_mod 0 100 (record everything { in_port = Some 3 }) []

abbrev pub hidden : State
hidden = run_of seeing_two (member_up 0 ∷ of_member 0 5 by_hidden ∷ [])

abbrev pub AHiddenPortIsRefused : Type 0
AHiddenPortIsRefused =
    (waiting_for (Member 0) hidden ≡ error_bytes 3 2 (message 5 by_hidden) ∷ [])
    × (hidden.audit ≡ (codes "deny ctl=app vsw=v1 xid=" ++ (decimal 5 ++ (codes " rule=G6 port=" ++ decimal 3))) ∷ [])

pub hidden_refused : AHiddenPortIsRefused
unfolding body_bytes flow_mod_fields flow_mod_of action_at actions_at seen sees_its
hidden_refused = (refl, refl)

-- a FLOW_MOD one of whose actions is cut short, and a message of version 4
abbrev pub cut_short : List ℕ
cut_short = 1 ∷ 14 ∷ 0 ∷ 76 ∷ 0 ∷ 0 ∷ 0 ∷ 9 ∷ (drop 8 (message 9 (flow_mod 0 100 everything [])) ++ 0 ∷ 0 ∷ 0 ∷ 8 ∷ [])

abbrev pub of_version_four : List ℕ
of_version_four = 4 ∷ 14 ∷ 0 ∷ 8 ∷ 0 ∷ 0 ∷ 0 ∷ 7 ∷ []

abbrev pub sent : List ℕ → Event
sent frame = Msg (record { who = Member 0; round = 1 }) frame

abbrev pub ill_formed : State
ill_formed = run_of built_in (member_up 0 ∷ sent cut_short ∷ sent of_version_four ∷ [])

abbrev pub IllFormedFramesAreRefused : Type 0
IllFormedFramesAreRefused =
    (waiting_for (Member 0) ill_formed ≡ error_bytes 2 1 cut_short ∷ error_bytes 1 0 of_version_four ∷ [])
    × (ill_formed.audit
    ≡ (codes "deny ctl=app vsw=v1 xid="
    ++ (decimal 9 ++ (codes " rule=form error=" ++ (decimal 2 ++ (codes "," ++ decimal 1)))))
    ∷ (codes "deny ctl=app vsw=v1 xid="
    ++ (decimal 7 ++ (codes " rule=form error=" ++ (decimal 1 ++ (codes "," ++ decimal 0))))) ∷ [])

pub ill_formed_refused : IllFormedFramesAreRefused
unfolding body_bytes flow_mod_fields flow_mod_of action_at actions_at seen sees_its
ill_formed_refused = (refl, refl)
