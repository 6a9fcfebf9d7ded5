use Rattle.std.proofs.Common.{◌∙◌, ◌+◌, ◌≤◌, Bool, true≢false, subst, sym}
use Rattle.std.specs.Prelude.{if◌then◌else◌}
use Rattle.machine_drafts.specs.Machines.{state_in_held}
use Rattle.event_composes.specs.Costs.{building_steps_of}
use Rattle.event_composes.specs.Kept.{IsKept}
use Rattle.event_composes.proofs.KeptOn.{kept_none}
use Rattle.event_composes.proofs.keeping.keep.Goals as goal

pub returns-then-not-has_numbers-clause-kept : goal.returns-then-not-has_numbers-clause-kept
returns-then-not-has_numbers-clause-kept g c =
    subst (IsKept c.args.setup.now (state_in_held c.args.held.now)) (sym c.set_kept.ensures)
    (kept_none c.args.setup.now (state_in_held c.args.held.now) c.requires.sound)

pub returns-then-is_some-clause-kept : goal.returns-then-is_some-clause-kept
returns-then-is_some-clause-kept g c = record {
  sound = c.requires.sound;
  numbers = λ some. c.has_numbers.ensures.0 c.if-not-has_numbers.false;
  of = c.requires.followed;
}

pub build-made-requires-after_bounds : goal.build-made-requires-after_bounds
build-made-requires-after_bounds g c ks lives = c.requires.sound (c.has_numbers.ensures.0 c.if-not-has_numbers.false)

pub returns-clause-kept : goal.returns-clause-kept
returns-clause-kept g c =
    subst (IsKept c.args.setup.now (state_in_held c.args.held.now)) (sym c.set_kept-2.ensures)
    (record {
      sound = c.requires.sound;
      numbers = λ some. c.has_numbers.ensures.0 c.if-not-has_numbers.false;
      of = c.build-made.ensures.of;
    })

pub returns-clause-steps : goal.returns-clause-steps
returns-clause-steps g c =
    subst
    (λ (b : Bool). c.build-made.new.steps
    ≤ c.args.steps.now
    + (if b then 0 else building_steps_of c.args.setup.now (state_in_held c.args.held.now)))
    (sym c.if-is_some.false ∙ c.is_some.ensures) c.build-made.ensures.steps

pub returns-then-not-has_numbers-clause-stays : goal.returns-then-not-has_numbers-clause-stays
returns-then-not-has_numbers-clause-stays g c there numbers =
    absurd (true≢false (sym (c.has_numbers.ensures.1 numbers) ∙ c.if-not-has_numbers.true))

pub returns-then-is_some-clause-stays : goal.returns-then-is_some-clause-stays
returns-then-is_some-clause-stays g c there numbers = there

pub returns-clause-stays : goal.returns-clause-stays
returns-clause-stays g c there numbers =
    absurd (true≢false (sym there ∙ sym (sym c.if-is_some.false ∙ c.is_some.ensures)))
