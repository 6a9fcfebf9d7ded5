-- A virtual switch gets another expression, or is refused it.
use Rattle.std.specs.Prelude.{◌≡◌, refl, ℕ, Some, List, [], ◌∷◌, codes, drop}
use Rattle.cv_io.specs.declared.leaf.Who.TheVariants.{Switch}
use Rattle.of10_actions.specs.Reading.{action_at, actions_at}
use Rattle.of10_actions.specs.declared.action.Action.TheVariants.{Output}
use Rattle.of10_match.specs.Fields.{MatchOf}
use Rattle.of10_match.specs.Matching.{everything}
use Rattle.of10_msgs.specs.Reading.{flow_mod_of}
use Rattle.of10_msgs.specs.Spelling.{body_bytes, flow_mod_fields}
use Rattle.of10_msgs.specs.declared.message.Body.TheVariants.{BarrierRequest}
use Rattle.policy_expr.specs.declared.fault.ExprFault.TheVariants.{Unused}
use Rattle.policy_setting.specs.OfPolicies.{seen, sees_its}
use Rattle.machine_meaning.specs.Drafts.{message}
use Rattle.machine_meaning.specs.Runs.{run_of}
use Rattle.machine_meaning.specs.States.{State, opening}
use Rattle.machine_meaning.specs.Steps.{step_of}
use Rattle.machine_meaning.specs.WorkedPolicies.{monitored}
use Rattle.machine_meaning.specs.WorkedSteps.{added, deleted, flow_mod, from_net, member_up, of_member, switch_up}
use Rattle.machine_meaning.specs.WorkedSteps.{to_net}
use Rattle.machine_meaning.specs.WorkedSteps.{waiting_for}
use Rattle.events.specs.declared.event.Event.{Event}
use Rattle.events.specs.declared.event.Event.TheVariants.{Policy}
use Rattle.events.specs.declared.event.PolicyRefusal.TheVariants.{Expr}
use Rattle.events.specs.declared.event.Reply.TheVariants.{Refused, Replaced}

-- what the monitor and the router have: from 10.0.1.0/24; to 10.0.2.0/24, and above it to 10.0.2.9
abbrev pub watched : MatchOf
watched = from_net 0x0a000100 24

abbrev pub net : MatchOf
net = to_net 0x0a000200 24

abbrev pub host : MatchOf
host = to_net 0x0a000209 32

abbrev pub both : MatchOf → MatchOf
both m = record m { nw_src = Some (record { addr = 0x0a000100; len = 24 }) }

abbrev pub filled : State
filled =
    run_of monitored
    (switch_up 0 ∷ member_up 0 ∷ member_up 1 ∷ of_member 0 1 (flow_mod 0 100 watched [])
    ∷ of_member 1 1 (flow_mod 0 100 net (Output 2 0 ∷ []))
    ∷ of_member 1 1 (flow_mod 0 200 host (Output 2 0 ∷ [])) ∷ [])

abbrev pub getting : List ℕ → Event
getting text = Policy 0 text

-- the monitor overrides the router: all entries change their priorities
abbrev pub AnExpressionIsReplaced : Type 0
AnExpressionIsReplaced =
    ((step_of monitored filled (getting (codes "mon|>rt"))).0 ≡ Replaced)
    × ((step_of monitored filled (getting (codes "mon|>rt"))).1.audit ≡ codes "policy vsw=v1 ok" ∷ [])
    × (drop 13 (waiting_for (Switch 0) (step_of monitored filled (getting (codes "mon|>rt"))).1)
    ≡ message 14 (deleted 1 3 everything) ∷ message 15 (deleted 3 6 net) ∷ message 16 (deleted 2 6 watched)
    ∷ message 17 (deleted 5 8 host)
    ∷ message 18 (deleted 4 9 (both net)) ∷ message 19 (deleted 6 11 (both host)) ∷ message 20 BarrierRequest
    ∷ message 21 (added 7 2 everything (Output 0xfffd 0xffff ∷ [])) ∷ message 22 (added 8 5 net (Output 2 0 ∷ []))
    ∷ message 23 (added 9 7 host (Output 2 0 ∷ [])) ∷ message 24 (added 10 13 watched []) ∷ message 25 BarrierRequest
    ∷ [])

pub expression_replaced : AnExpressionIsReplaced
unfolding body_bytes flow_mod_fields flow_mod_of action_at actions_at seen sees_its
expression_replaced = (refl, refl, refl)

-- an expression without the router is refused, and changes nothing but the audit
abbrev pub AnExpressionIsRefused : Type 0
AnExpressionIsRefused =
    step_of monitored (opening monitored) (getting (codes "mon"))
    ≡ (
      Refused (Expr (Unused (codes "rt"))),
      record (opening monitored)
          { audit = codes "policy vsw=v1 refused=unused" ∷ [] },
    )

pub expression_refused : AnExpressionIsRefused
unfolding seen sees_its
expression_refused = refl
