use Rattle.std.proofs.Common.{◌∙◌, ◌+◌, ◌-◌, ◌≤◌, Option, refl, sym, ap, subst, true≢false, arith}
use Rattle.std.specs.Prelude.{◌==◌, IfSome, is_some}
use Rattle.std.proofs.lemmas.List.{length-map}
use Rattle.machine_drafts.specs.Views.{member_of, switch_of}
use Rattle.composed_tables.specs.Composing.{ComposedOf}
use Rattle.machine_meaning.specs.Rounds.{Closing}
use Rattle.machine_meaning.specs.Phases.{settled_of}
use Rattle.machine_meaning.specs.States.{State}
use Rattle.event_composes.specs.Costs.{first_steps, is_replaced, kept_steps, turning_steps}
use Rattle.event_composes.proofs.Bounds.{begun_rest, begun_steps, none_more, none_replaced, none_slow}
use Rattle.event_composes.proofs.Bounds.{slow_some, tried, tried_at}
use Rattle.hyper_core.proofs.Attempts.{all_drafted, drafted_anew, kept_drafted, numbers_kept}
use Rattle.event_ends.specs.Closings.{closing_of}
use Rattle.hyper_core.specs.Drafting.{IsPutOf}
use Rattle.event_composes.specs.Kept.{IsBegun, IsComposedOf}
use Rattle.machine_drafts.specs.Machines.{state_in_held}
use Rattle.machine_drafts.specs.Moments.{moment_of}
use Rattle.event_acts.specs.Overtaking.{IsHeardOf}
use Rattle.machine_meaning.specs.Phases.{slow_from}
use Rattle.event_composes.specs.Settled.{IsSettledState}
use Rattle.hyper_core.proofs.drafting.draft_event.Goals as goal

pub attempt-requires-clause-numbers : goal.attempt-requires-clause-numbers
attempt-requires-clause-numbers g c =
    numbers_kept c.args.held.now c.loop-closing.held (moment_of c.args.event.now c.args.held.now.moment)
    (moment_of c.args.event.now c.loop-closing.held.moment) c.loop-closing.invariant.state c.requires.numbers

pub attempt-requires-clause-whole : goal.attempt-requires-clause-whole
attempt-requires-clause-whole g c = c.requires.whole

pub attempt-requires-clause-heard : goal.attempt-requires-clause-heard
attempt-requires-clause-heard g c =
    subst (IsHeardOf c.args.event.now c.args.heard.now) (sym c.loop-closing.invariant.state) c.requires.heard

pub attempt-requires-clause-settled : goal.attempt-requires-clause-settled
attempt-requires-clause-settled g c =
    subst (IsSettledState c.args.setup.now) (sym c.loop-closing.invariant.state) c.requires.settled

pub attempt-requires-clause-kept : goal.attempt-requires-clause-kept
attempt-requires-clause-kept g c =
    subst (λ (s : State). IfSome c.loop-closing.composed (IsBegun c.args.setup.now s c.args.event.now))
    (sym c.loop-closing.invariant.state) c.loop-closing.invariant.kept

pub returns-in-Ready-clause-kept : goal.returns-in-Ready-clause-kept
returns-in-Ready-clause-kept g c =
    let p = c.args.setup.now in
    let e = c.args.event.now in
    let h = c.attempt.new.held in
    let closing = closing_of c.loop-closing.closing in
    let before = c.loop-closing.invariant.state in
    kept_drafted p h (state_in_held c.args.held.now) e closing c.loop-closing.left c.in-Ready.drafted
    c.attempt.new.composed (c.attempt.ensures.state ∙ before)
    (subst (IsPutOf p h e closing (c.loop-closing.left == 0)) c.in-Ready.is c.in_ok-drafted.ensures.put)
    c.loop-closing.invariant.rest
    (subst (λ (s : State). IfSome c.attempt.new.composed (IsComposedOf p (settled_of p s e closing).state)) before
    c.in_ok-drafted.ensures.kept)

pub returns-in-Ready-clause-draft : goal.returns-in-Ready-clause-draft
returns-in-Ready-clause-draft g c =
    let p = c.args.setup.now in
    let s = state_in_held c.args.held.now in
    let e = c.args.event.now in
    let h = c.attempt.new.held in
    let closing = closing_of c.loop-closing.closing in
    all_drafted p h s e closing c.loop-closing.left c.in-Ready.drafted
    (c.attempt.ensures.state ∙ c.loop-closing.invariant.state)
    (subst (IsPutOf p h e closing (c.loop-closing.left == 0)) c.in-Ready.is c.in_ok-drafted.ensures.put)
    c.loop-closing.invariant.rest

pub loop-closing-preserved : goal.loop-closing-preserved
loop-closing-preserved g c =
    let p = c.args.setup.now in
    let s = state_in_held c.args.held.now in
    let e = c.args.event.now in
    let h = c.attempt.new.held in
    let closing = closing_of c.loop-closing.closing in
    let same = c.attempt.ensures.state ∙ c.loop-closing.invariant.state in
    let put = subst (IsPutOf p h e closing (c.loop-closing.left == 0)) c.in-Slow.is c.in_ok-drafted.ensures.put in
    let anew = drafted_anew p h s e closing c.loop-closing.left c.in-Slow.more same put c.loop-closing.invariant.rest in
    let taken =
    subst
    (λ (z : State). c.attempt.new.steps ≤ c.loop-closing.steps
    + kept_steps c.loop-closing.composed (turning_steps p z (settled_of p z e closing).state))
    c.loop-closing.invariant.state c.attempt.ensures.steps in
    record {
      state = same;
      kept = subst (λ (k : Option ComposedOf). IfSome k (IsBegun p s e)) (sym c.set_kept.ensures) tt;
      rest = ap (slow_from (c.loop-closing.left - 1) p s e) c.in_ok-join-in-Slow.ensures ∙ anew;
      first = λ some. absurd (true≢false (sym some ∙ ap is_some c.set_kept.ensures));
      follows = λ some none.
          absurd (true≢false (sym none
          ∙ slow_some (c.loop-closing.left - 1) p s e closing (closing_of c.in-Slow.more) put.2 anew));
      steps =
          subst (λ (k : Option ComposedOf). c.attempt.new.steps + kept_steps k (first_steps p s e)
          ≤ c.args.steps.now + first_steps p s e)
          (sym c.set_kept.ensures)
          (none_more c.attempt.new.steps (c.args.steps.now + first_steps p s e)
          (tried p s e closing c.loop-closing.composed c.args.steps.now c.loop-closing.steps c.attempt.new.steps
          c.loop-closing.invariant.first c.loop-closing.invariant.steps taken));
    }

pub loop-closing-init : goal.loop-closing-init
loop-closing-init g c = record {
  state = refl;
  kept = c.requires.kept;
  rest =
      begun_rest c.args.setup.now (state_in_held c.args.held.now) c.args.event.now _ _
      (omega (arith, length-map c.args.held.now.switches switch_of, length-map c.args.held.now.members member_of))
      c.nobody-closing.ensures;
  first = λ some. c.nobody-closing.ensures;
  follows = λ some none. some;
  steps = begun_steps c.args.composed.now c.args.steps.now _;
}

pub returns-in-Ready-clause-follows : goal.returns-in-Ready-clause-follows
returns-in-Ready-clause-follows g c some followed =
    let p = c.args.setup.now in
    let s = state_in_held c.args.held.now in
    let e = c.args.event.now in
    let there = c.loop-closing.invariant.follows some (none_slow p s e followed) in
    c.in_ok-drafted.ensures.follows there
    (ap (λ (x : State × Closing). is_replaced (settled_of p x.0 e x.1).reply)
    (λ i. (c.loop-closing.invariant.state i, c.loop-closing.invariant.first there i))
    ∙ none_replaced p s e followed)

pub returns-in-Ready-clause-steps : goal.returns-in-Ready-clause-steps
returns-in-Ready-clause-steps g c =
    let p = c.args.setup.now in
    let s = state_in_held c.args.held.now in
    let e = c.args.event.now in
    let closing = closing_of c.loop-closing.closing in
    tried_at p s e closing c.loop-closing.composed c.args.steps.now c.loop-closing.steps c.attempt.new.steps
    (state_in_held c.loop-closing.held) c.loop-closing.invariant.state c.loop-closing.invariant.first
    c.loop-closing.invariant.steps c.attempt.ensures.steps

pub returns-in_err-drafted-clause-steps : goal.returns-in_err-drafted-clause-steps
returns-in_err-drafted-clause-steps g c =
    let p = c.args.setup.now in
    let s = state_in_held c.args.held.now in
    let e = c.args.event.now in
    let closing = closing_of c.loop-closing.closing in
    tried_at p s e closing c.loop-closing.composed c.args.steps.now c.loop-closing.steps c.attempt.new.steps
    (state_in_held c.loop-closing.held) c.loop-closing.invariant.state c.loop-closing.invariant.first
    c.loop-closing.invariant.steps c.attempt.ensures.steps

pub returns-in_err-join-in-Slow-clause-steps : goal.returns-in_err-join-in-Slow-clause-steps
returns-in_err-join-in-Slow-clause-steps g c =
    let p = c.args.setup.now in
    let s = state_in_held c.args.held.now in
    let e = c.args.event.now in
    let closing = closing_of c.loop-closing.closing in
    tried_at p s e closing c.loop-closing.composed c.args.steps.now c.loop-closing.steps c.attempt.new.steps
    (state_in_held c.loop-closing.held) c.loop-closing.invariant.state c.loop-closing.invariant.first
    c.loop-closing.invariant.steps c.attempt.ensures.steps
