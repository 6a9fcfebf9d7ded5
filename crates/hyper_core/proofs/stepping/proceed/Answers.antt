use Rattle.std.proofs.Common.{◌≡◌, ◌∙◌, ap, subst, sym}
use Rattle.std.specs.Prelude.{is_some, reverse, true}
use Rattle.machine_meaning.specs.Phases.{drafted}
use Rattle.machine_meaning.specs.States.{State}
use Rattle.machine_meaning.specs.Steps.{done, step_of}
use Rattle.events.specs.declared.event.Reply.{Reply}
use Rattle.hyper_core.proofs.Attempts.{has_all_kept}
use Rattle.event_composes.proofs.Cases.{in_ok_case}
use Rattle.event_composes.proofs.Bounds.{followed, followed_wanting, no_more, whole, whole_wanting}
use Rattle.event_composes.proofs.KeptOn.{begun_kept, kept_none, sound_stepped}
use Rattle.hyper_core.proofs.Stepped.{has_all_counted, settled_counted, step_other, taken_back}
use Rattle.event_composes.specs.Costs.{is_followed}
use Rattle.event_composes.specs.Kept.{IsKept, IsSoundWhile}
use Rattle.machine_drafts.specs.Machines.{state_in_held}
use Rattle.event_composes.specs.Settled.{IsSettledState}
use Rattle.machine_drafts.specs.declared.held.Held.{Held}
use Rattle.hyper_core.proofs.stepping.proceed.Goals as goal

pub hear-requires : goal.hear-requires
hear-requires g c = c.requires.whole

pub drive-requires-clause-all : goal.drive-requires-clause-all
drive-requires-clause-all g c =
    has_all_counted c.args.setup.now c.args.held.now c.hear.new.held c.requires.all c.in_ok-overtaken.ensures.rest

pub drive-requires-clause-whole : goal.drive-requires-clause-whole
drive-requires-clause-whole g c = c.requires.whole

pub drive-requires-clause-heard : goal.drive-requires-clause-heard
drive-requires-clause-heard g c = c.in_ok-overtaken.ensures.hears

pub drive-requires-clause-settled : goal.drive-requires-clause-settled
drive-requires-clause-settled g c =
    settled_counted c.args.setup.now c.args.held.now c.hear.new.held c.requires.settled c.in_ok-overtaken.ensures.rest

pub drive-requires-clause-kept : goal.drive-requires-clause-kept
drive-requires-clause-kept g c =
    begun_kept c.args.setup.now c.args.held.now c.hear.new.held c.args.event.now c.args.composed.now c.requires.given
    c.requires.changes c.in_ok-overtaken.ensures.heard c.in_ok-overtaken.ensures.rest c.requires.kept

pub keep-requires-clause-sound : goal.keep-requires-clause-sound
keep-requires-clause-sound g c ks lives =
    let p = c.args.setup.now in
    let s = state_in_held c.args.held.now in
    let e = c.args.event.now in
    let is : (step_of p s e).1 ≡ state_in_held c.drive.new.held =
    ap (λ (x : Reply × State). x.1)
    (step_other p s e c.requires.changes c.requires.drafted
    ∙ sym (c.in-Ok.ensures.done ∙ ap (λ (z : State). done p (drafted p z e)) c.in_ok-overtaken.ensures.heard)) in
    subst (IsSoundWhile p) is
    (sound_stepped c.soundness_is_kept.ensures p c.policy-policy.ensures.sound s c.cookie_fits.ensures e
    c.requires.given
    c.requires.kept.sound)

pub keep-requires-clause-followed : goal.keep-requires-clause-followed
keep-requires-clause-followed g c ks lives = c.in-Ok.ensures.kept

pub returns-in_err-overtaken-clause-kept : goal.returns-in_err-overtaken-clause-kept
returns-in_err-overtaken-clause-kept g c =
    subst (λ (h : Held). IsKept c.args.setup.now (state_in_held h) c.args.composed.now)
    (sym c.in_err-overtaken.ensures.memory) c.requires.kept

pub returns-in-Ok-clause-kept : goal.returns-in-Ok-clause-kept
returns-in-Ok-clause-kept g c = c.keep.ensures.kept

pub returns-in-Ok-clause-done : goal.returns-in-Ok-clause-done
returns-in-Ok-clause-done g c =
    c.in-Ok.ensures.done
    ∙ ap (λ (s : State). done c.args.setup.now (drafted c.args.setup.now s c.args.event.now))
    c.in_ok-overtaken.ensures.heard

pub returns-in-Ok-clause-all : goal.returns-in-Ok-clause-all
returns-in-Ok-clause-all g c = c.drive.ensures.all

pub returns-in_err-overtaken-clause-settled : goal.returns-in_err-overtaken-clause-settled
returns-in_err-overtaken-clause-settled g c =
    subst (λ (h : Held). IsSettledState c.args.setup.now (state_in_held h)) (sym c.in_err-overtaken.ensures.memory)
    c.requires.settled

pub returns-in-Ok-clause-settled : goal.returns-in-Ok-clause-settled
returns-in-Ok-clause-settled g c = c.drive.ensures.settled

pub returns-in-Err-clause-settled : goal.returns-in-Err-clause-settled
returns-in-Err-clause-settled g c = c.drive.ensures.settled

pub returns-in-Err-clause-all : goal.returns-in-Err-clause-all
returns-in-Err-clause-all g c =
    has_all_kept c.args.setup.now c.args.held.now (record c.drive.new.held { counts = c.take_back.new.counts })
    c.requires.all
    (taken_back c.args.held.now c.hear.new.held c.drive.new.held c.take_back.new.counts
    c.in_ok-overtaken.overtaken.switch (reverse c.in_ok-overtaken.overtaken.exchanged) c.in_ok-overtaken.ensures.rest
    c.in_ok-overtaken.ensures.back
    c.in-Err.ensures.memory c.take_back.ensures)

pub returns-in-Err-clause-kept : goal.returns-in-Err-clause-kept
returns-in-Err-clause-kept g c =
    subst (IsKept c.args.setup.now _) (sym c.set_kept.ensures)
    (kept_none c.args.setup.now _
    (subst (IsSoundWhile c.args.setup.now)
    (sym (taken_back c.args.held.now c.hear.new.held c.drive.new.held c.take_back.new.counts
    c.in_ok-overtaken.overtaken.switch (reverse c.in_ok-overtaken.overtaken.exchanged) c.in_ok-overtaken.ensures.rest
    c.in_ok-overtaken.ensures.back c.in-Err.ensures.memory c.take_back.ensures))
    c.requires.kept.sound))

pub returns-in-Err-clause-memory : goal.returns-in-Err-clause-memory
returns-in-Err-clause-memory g c =
    taken_back c.args.held.now c.hear.new.held c.drive.new.held c.take_back.new.counts
    c.in_ok-overtaken.overtaken.switch (reverse c.in_ok-overtaken.overtaken.exchanged) c.in_ok-overtaken.ensures.rest
    c.in_ok-overtaken.ensures.back
    c.in-Err.ensures.memory c.take_back.ensures

pub returns-in-Ok-clause-cost : goal.returns-in-Ok-clause-cost
returns-in-Ok-clause-cost g c there =
    let p = c.args.setup.now in
    let s = state_in_held c.args.held.now in
    let e = c.args.event.now in
    let is : (step_of p s e).1 ≡ state_in_held c.drive.new.held =
    ap (λ (x : Reply × State). x.1)
    (step_other p s e c.requires.changes c.requires.drafted
    ∙ sym (c.in-Ok.ensures.done ∙ ap (λ (z : State). done p (drafted p z e)) c.in_ok-overtaken.ensures.heard)) in
    followed p s e (state_in_held c.hear.new.held) (state_in_held c.drive.new.held) c.args.steps.now c.drive.new.steps
    c.keep.new.steps (is_some c.drive.new.composed) c.in_ok-overtaken.ensures.heard is
    (c.in-Ok.ensures.follows there) c.drive.ensures.steps c.keep.ensures.steps

pub returns-in-Ok-clause-most : goal.returns-in-Ok-clause-most
returns-in-Ok-clause-most g c =
    let p = c.args.setup.now in
    let s = state_in_held c.args.held.now in
    let e = c.args.event.now in
    let is : (step_of p s e).1 ≡ state_in_held c.drive.new.held =
    ap (λ (x : Reply × State). x.1)
    (step_other p s e c.requires.changes c.requires.drafted
    ∙ sym (c.in-Ok.ensures.done ∙ ap (λ (z : State). done p (drafted p z e)) c.in_ok-overtaken.ensures.heard)) in
    whole p s e (state_in_held c.hear.new.held) (state_in_held c.drive.new.held) c.args.steps.now c.drive.new.steps
    c.keep.new.steps (is_some c.drive.new.composed) c.in_ok-overtaken.ensures.heard is c.drive.ensures.steps
    c.keep.ensures.steps

pub returns-in-Err-clause-cost : goal.returns-in-Err-clause-cost
returns-in-Err-clause-cost g c there =
    followed_wanting c.args.setup.now (state_in_held c.args.held.now) c.args.event.now
    (state_in_held c.hear.new.held) c.args.steps.now c.drive.new.steps c.in_ok-overtaken.ensures.heard
    c.drive.ensures.steps

pub returns-in-Err-clause-most : goal.returns-in-Err-clause-most
returns-in-Err-clause-most g c =
    whole_wanting c.args.setup.now (state_in_held c.args.held.now) c.args.event.now
    (state_in_held c.hear.new.held) c.args.steps.now c.drive.new.steps c.in_ok-overtaken.ensures.heard
    c.drive.ensures.steps

pub returns-in_err-overtaken-clause-cost : goal.returns-in_err-overtaken-clause-cost
returns-in_err-overtaken-clause-cost g c there = no_more _ _

pub returns-in_err-overtaken-clause-most : goal.returns-in_err-overtaken-clause-most
returns-in_err-overtaken-clause-most g c = no_more _ _

pub returns-in-Ok-clause-stays : goal.returns-in-Ok-clause-stays
returns-in-Ok-clause-stays g c there follows numbers =
    c.keep.ensures.stays
    (c.in-Ok.ensures.follows there
    (subst (λ (z : State). is_followed c.args.setup.now z c.args.event.now ≡ true) (sym c.in_ok-overtaken.ensures.heard)
    follows))
    numbers

pub returns-in-Err-clause-stays : goal.returns-in-Err-clause-stays
returns-in-Err-clause-stays g c there follows numbers = tt

pub returns-in_err-overtaken-clause-stays : goal.returns-in_err-overtaken-clause-stays
returns-in_err-overtaken-clause-stays g c there follows numbers = in_ok_case c.from_residual.result there
