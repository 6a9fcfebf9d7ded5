use Rattle.std.proofs.Common.{◌∙◌, ◌+◌, ◌≤◌, ℕ, true, subst, sym}
use Rattle.machine_drafts.specs.Machines.{state_in_held}
use Rattle.machine_meaning.specs.Hearing.{heard}
use Rattle.event_composes.specs.Costs.{followed_cost, is_followed, whole_cost}
use Rattle.event_composes.proofs.Bounds.{no_more, not_still}
use Rattle.hyper_core.proofs.Stepped.{kept_left, settled_taken}
use Rattle.hyper_core.proofs.stepping.step.Goals as goal

pub returns-in-Some-taking_in-clause-kept : goal.returns-in-Some-taking_in-clause-kept
returns-in-Some-taking_in-clause-kept g c =
    kept_left c.soundness_is_kept.ensures c.args.setup.now c.policy-policy.ensures.sound c.args.held.now c.take.new.held
    c.cookie_fits.ensures c.args.event.now c.in-Some-taking_in.session c.args.composed.now
    (c.is_event.ensures c.if-not-is_event.false) (sym c.glance.ensures ∙ c.in_default.is)
    (sym c.taking_in.ensures ∙ c.in-Some-taking_in.is) c.take.ensures.left c.requires.kept

pub returns-clause-cost : goal.returns-clause-cost
returns-clause-cost g c there =
    subst (λ (n : ℕ). c.proceed.new.steps ≤ c.args.steps.now + n)
    (not_still c.args.setup.now (state_in_held c.args.held.now) c.args.event.now 0
    (followed_cost c.args.setup.now (state_in_held c.args.held.now) c.args.event.now)
    (sym c.glance.ensures ∙ c.in_default.is) (sym c.taking_in.ensures ∙ c.in_default-taking_in.is))
    (c.proceed.ensures.cost there)

pub returns-clause-most : goal.returns-clause-most
returns-clause-most g c =
    subst (λ (n : ℕ). c.proceed.new.steps ≤ c.args.steps.now + n)
    (not_still c.args.setup.now (state_in_held c.args.held.now) c.args.event.now 0
    (whole_cost c.args.setup.now (state_in_held c.args.held.now) c.args.event.now)
    (sym c.glance.ensures ∙ c.in_default.is) (sym c.taking_in.ensures ∙ c.in_default-taking_in.is))
    c.proceed.ensures.most

pub returns-in-Some-clause-cost : goal.returns-in-Some-clause-cost
returns-in-Some-clause-cost g c there = no_more _ _

pub returns-in-Some-clause-most : goal.returns-in-Some-clause-most
returns-in-Some-clause-most g c = no_more _ _

pub returns-then-not-is_event-clause-cost : goal.returns-then-not-is_event-clause-cost
returns-then-not-is_event-clause-cost g c there = no_more _ _

pub returns-then-not-is_event-clause-most : goal.returns-then-not-is_event-clause-most
returns-then-not-is_event-clause-most g c = no_more _ _

pub returns-in-Some-taking_in-clause-cost : goal.returns-in-Some-taking_in-clause-cost
returns-in-Some-taking_in-clause-cost g c there = no_more _ _

pub returns-in-Some-taking_in-clause-most : goal.returns-in-Some-taking_in-clause-most
returns-in-Some-taking_in-clause-most g c = no_more _ _

pub returns-in-Some-taking_in-clause-settled : goal.returns-in-Some-taking_in-clause-settled
returns-in-Some-taking_in-clause-settled g c =
    settled_taken c.args.setup.now c.args.held.now c.take.new.held c.in-Some-taking_in.session c.requires.settled
    c.take.ensures.left

pub returns-clause-stays : goal.returns-clause-stays
returns-clause-stays g c there stays numbers =
    let p = c.args.setup.now in
    let s = state_in_held c.args.held.now in
    let e = c.args.event.now in
    c.proceed.ensures.stays there
    (not_still p s e true (is_followed p (heard s e) e) (sym c.glance.ensures ∙ c.in_default.is)
    (sym c.taking_in.ensures ∙ c.in_default-taking_in.is)
    ∙ stays)
    numbers

pub returns-in-Some-clause-stays : goal.returns-in-Some-clause-stays
returns-in-Some-clause-stays g c there stays numbers = there

pub returns-in-Some-taking_in-clause-stays : goal.returns-in-Some-taking_in-clause-stays
returns-in-Some-taking_in-clause-stays g c there stays numbers = there

pub returns-then-not-is_event-clause-stays : goal.returns-then-not-is_event-clause-stays
returns-then-not-is_event-clause-stays g c there stays numbers = tt
