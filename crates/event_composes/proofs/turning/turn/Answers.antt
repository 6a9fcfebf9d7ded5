use Rattle.std.proofs.Common.{◌≡◌, ◌+◌, ◌≤◌, Bool, List, length, refl, ap, arith}
use Rattle.std.proofs.lemmas.List.{length-map}
use Rattle.setting_laws.proofs.Ups.{long_physical}
use Rattle.machine_meaning.specs.Settings.{ups_with}
use Rattle.machine_meaning.specs.States.{SwitchOf}
use Rattle.machine_drafts.specs.Outcomes.{state_in, switches_in}
use Rattle.machine_drafts.specs.SwitchDrafts.{SwitchDraftOf}
use Rattle.event_composes.specs.Turning.{mixed_at, stood_in}
use Rattle.event_composes.specs.Costs.{turning_steps_at}
use Rattle.event_composes.proofs.Bounds.{all_turned, no_more, one_more}
use Rattle.event_composes.proofs.OneTurn.{kept_first, kept_last}
use Rattle.event_composes.proofs.turning.turn.Goals as goal

pub loop-n-init : goal.loop-n-init
loop-n-init g c = record {
  of = kept_first c.args.setup.now c.args.draft.now c.requires.exprs c.args.composed.now c.requires.of;
  told = refl;
  steps = no_more c.args.steps.now 0;
}

-- which switches are up is told of as many as there are tables
pub turn_member-requires-clause-ups : goal.turn_member-requires-clause-ups
turn_member-requires-clause-ups g c =
    let o = c.args.draft.now in
    let ups = ap (λ (us : List Bool). length us) c.in_ok-ups.ensures in
    let seen = length-map (switches_in c.as_slice.result.now) (λ (x : SwitchOf). x.outbox.up) in
    let now = length-map c.as_slice.result.now (λ (x : SwitchDraftOf). x.now) in
    let same = ap (λ (xs : List SwitchDraftOf). length xs) c.as_slice.ensures in
    let all = c.requires.all in
    let count = c.loop-n.invariant.of.of.count in
    let physical = long_physical (ups_with (mixed_at c.loop-n.n o).switches) c.args.setup.now.switches in
    let slice = ap (λ (us : List Bool). length us) c.as_slice-in-loop-n.ensures in
    omega (arith, ups, seen, now, same, all, count, physical, slice)

-- one member more
pub loop-n-preserved : goal.loop-n-preserved
loop-n-preserved g c = record {
  of = c.in_ok-turned.ensures.of;
  told = c.in_ok-turned.ensures.told c.args.composed.now.tables c.loop-n.invariant.told;
  steps = one_more (turning_steps_at c.args.setup.now (stood_in c.args.draft.now) (state_in c.args.draft.now))
      c.args.steps.now c.loop-n.steps c.turn_member.new.steps c.loop-n.n c.loop-n.invariant.steps
      c.turn_member.ensures.steps;
}

pub returns-clause-of : goal.returns-clause-of
returns-clause-of g c =
    let test = c.loop-n-test.false in
    let end : c.loop-n.n ≡ length c.args.draft.now.members = omega arith in
    kept_last c.args.setup.now c.args.draft.now c.requires.exprs c.loop-n.composed c.loop-n.n end
    c.loop-n.invariant.of

pub returns-clause-steps : goal.returns-clause-steps
returns-clause-steps g c =
    let o = c.args.draft.now in
    let test = c.loop-n-test.false in
    let end : c.loop-n.n ≤ length o.members = omega arith in
    all_turned c.args.setup.now o c.args.steps.now c.loop-n.steps c.loop-n.n c.loop-n.invariant.steps end

-- one member more, at which memory was wanted
pub returns-in_err-turned-clause-steps : goal.returns-in_err-turned-clause-steps
returns-in_err-turned-clause-steps g c =
    let o = c.args.draft.now in
    let f = turning_steps_at c.args.setup.now (stood_in o) (state_in o) in
    let test = c.loop-n-test.true in
    let end : c.loop-n.n + 1 ≤ length o.members = omega arith in
    all_turned c.args.setup.now o c.args.steps.now c.turn_member.new.steps (c.loop-n.n + 1)
    (one_more f c.args.steps.now c.loop-n.steps c.turn_member.new.steps c.loop-n.n c.loop-n.invariant.steps
    c.turn_member.ensures.steps)
    end
