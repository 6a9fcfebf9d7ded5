use Rattle.std.proofs.Common.{◌∙◌, ◌+◌, ◌≤◌, ap, sym, subst}
use Rattle.std.proofs.lemmas.Result.{IfOk-weaker}
use Rattle.std.specs.Prelude.{IfSome}
use Rattle.machine_meaning.specs.Phases.{settled_of}
use Rattle.machine_meaning.specs.States.{State}
use Rattle.hyper_core.proofs.Attempts.{numbers_kept, put_at}
use Rattle.event_composes.proofs.Cases.{in_ok_case}
use Rattle.event_ends.specs.Closings.{closing_of}
use Rattle.event_composes.specs.Costs.{is_replaced, kept_steps, turning_steps}
use Rattle.event_composes.specs.Kept.{IsBegun, IsComposedOf}
use Rattle.machine_drafts.specs.Moments.{moment_of}
use Rattle.event_acts.specs.Overtaking.{IsHeardOf}
use Rattle.machine_drafts.specs.Outcomes.{HaveNumbers}
use Rattle.event_composes.specs.Settled.{IsSettledState}
use Rattle.event_composes.proofs.Bounds.{no_more}
use Rattle.hyper_core.proofs.drafting.attempt.Goals as goal

pub judge_event-requires : goal.judge_event-requires
judge_event-requires g c = c.requires.whole

pub draft-requires-clause-numbers : goal.draft-requires-clause-numbers
draft-requires-clause-numbers g c =
    numbers_kept c.args.held.now c.judge_event.new.held (moment_of c.args.event.now c.args.held.now.moment)
    (moment_of c.args.event.now c.judge_event.new.held.moment) c.judge_event.ensures.state c.requires.numbers

pub draft-requires-clause-whole : goal.draft-requires-clause-whole
draft-requires-clause-whole g c = c.requires.whole

pub draft-requires-clause-judged : goal.draft-requires-clause-judged
draft-requires-clause-judged g c = c.in_ok-judged.ensures.judged

pub draft-requires-clause-heard : goal.draft-requires-clause-heard
draft-requires-clause-heard g c =
    subst (IsHeardOf c.args.event.now c.args.heard.now) (sym c.judge_event.ensures.state) c.requires.heard

pub draft-requires-clause-settled : goal.draft-requires-clause-settled
draft-requires-clause-settled g c =
    subst (IsSettledState c.args.setup.now) (sym c.judge_event.ensures.state) c.requires.settled

pub draft-requires-clause-kept : goal.draft-requires-clause-kept
draft-requires-clause-kept g c =
    subst (λ (s : State). IfSome c.args.composed.now (IsBegun c.args.setup.now s c.args.event.now))
    (sym c.judge_event.ensures.state) c.requires.kept

pub put-requires : goal.put-requires
put-requires g c =
    let held = c.judge_event.new.held in
    subst HaveNumbers (sym c.in_ok-drafted.ensures.bases)
    (numbers_kept c.args.held.now held (moment_of c.args.event.now c.args.held.now.moment)
    (moment_of c.args.event.now held.moment) c.judge_event.ensures.state c.requires.numbers)

pub returns-clause-put : goal.returns-clause-put
returns-clause-put g c =
    IfOk-weaker c.put.result _ _
    (λ r i. put_at c.args.setup.now c.judge_event.new.held c.args.event.now (closing_of c.args.closing.now) c.args.last
    _ r c.in_ok-drafted.ensures.draft c.in_ok-drafted.ensures.bases i)
    c.put.ensures

pub returns-clause-kept : goal.returns-clause-kept
returns-clause-kept g c =
    in_ok_case c.put.result
    (subst
    (λ (s : State). IfSome c.draft.new.composed
    (IsComposedOf c.args.setup.now
    (settled_of c.args.setup.now s c.args.event.now (closing_of c.args.closing.now)).state))
    c.judge_event.ensures.state c.in_ok-drafted.ensures.kept)

pub returns-clause-state : goal.returns-clause-state
returns-clause-state g c = c.judge_event.ensures.state

pub returns-clause-follows : goal.returns-clause-follows
returns-clause-follows g c some other =
    in_ok_case c.put.result
    (c.in_ok-drafted.ensures.follows some
    (ap (λ (s : State).
    is_replaced (settled_of c.args.setup.now s c.args.event.now (closing_of c.args.closing.now)).reply)
    c.judge_event.ensures.state ∙ other))

pub returns-clause-steps : goal.returns-clause-steps
returns-clause-steps g c =
    subst
    (λ (s : State). c.draft.new.steps ≤ c.args.steps.now
    + kept_steps c.args.composed.now (turning_steps c.args.setup.now s
    (settled_of c.args.setup.now s c.args.event.now (closing_of c.args.closing.now)).state))
    c.judge_event.ensures.state c.draft.ensures.steps

pub returns-in_err-drafted-clause-steps : goal.returns-in_err-drafted-clause-steps
returns-in_err-drafted-clause-steps g c =
    subst
    (λ (s : State). c.draft.new.steps ≤ c.args.steps.now
    + kept_steps c.args.composed.now (turning_steps c.args.setup.now s
    (settled_of c.args.setup.now s c.args.event.now (closing_of c.args.closing.now)).state))
    c.judge_event.ensures.state c.draft.ensures.steps

pub returns-in_err-judged-clause-steps : goal.returns-in_err-judged-clause-steps
returns-in_err-judged-clause-steps g c = no_more _ _
