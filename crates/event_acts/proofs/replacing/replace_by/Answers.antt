use Rattle.std.proofs.Common.{◌∙◌, Option, ap, map, sym}
use Rattle.std.proofs.lemmas.Result.{on_ok_weaker}
use Rattle.policy_expr.specs.Policy.{policy_of}
use Rattle.policies.specs.Policies.{plan}
use Rattle.policies.specs.Widths.{too_wide_in}
use Rattle.events.specs.declared.event.PolicyRefusal.{PolicyRefusal}
use Rattle.machine_meaning.specs.Replacing.{replace_unless, width_refusal}
use Rattle.machine_drafts.specs.Outcomes.{draft_in}
use Rattle.event_acts.proofs.replacing.replace_by.Goals as goal

pub returns-in-Some-clause-drafted : goal.returns-in-Some-clause-drafted
returns-in-Some-clause-drafted c =
    let p = c.args.setup.now in
    let d = draft_in c.args.draft.now in
    let read =
    c.in_ok-refusal.ensures
    ∙ ((λ i. width_refusal (too_wide_in (plan p) p.members (map policy_of (c.as_slice.ensures i)) p.hops))
    ∙ (λ i. width_refusal (too_wide_in (plan p) p.members (c.in_ok-all.ensures i) p.hops))) in
    on_ok_weaker c.refuse_expr.result
    (λ e. e
    ∙ ap (λ (r : Option PolicyRefusal). replace_unless r p c.args.v (policy_of c.args.expr) d)
    (sym c.in-Some.is ∙ read))
    c.refuse_expr.ensures.drafted

pub returns-in-None-clause-drafted : goal.returns-in-None-clause-drafted
returns-in-None-clause-drafted c =
    let p = c.args.setup.now in
    let d = draft_in c.args.draft.now in
    let read =
    c.in_ok-refusal.ensures
    ∙ ((λ i. width_refusal (too_wide_in (plan p) p.members (map policy_of (c.as_slice.ensures i)) p.hops))
    ∙ (λ i. width_refusal (too_wide_in (plan p) p.members (c.in_ok-all.ensures i) p.hops))) in
    on_ok_weaker c.replace_expr.result
    (λ e. e
    ∙ ap (λ (r : Option PolicyRefusal). replace_unless r p c.args.v (policy_of c.args.expr) d)
    (sym c.in-None.is ∙ read))
    c.replace_expr.ensures.drafted
