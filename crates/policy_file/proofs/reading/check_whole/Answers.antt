use Rattle.std.proofs.Common.{◌≡◌, ◌∙◌, Ok, map, subst, sym}
use Rattle.policy_expr.specs.Policy as expr
use Rattle.policies.specs.Exprs.{exprs_of}
use Rattle.policies.specs.Outcomes.{Gives}
use Rattle.policy_file.specs.Reading.{fits_made}
use Rattle.policy_file.proofs.Checked.{step_gives}
use Rattle.policy_file.proofs.reading.check_whole.Goals as goal

pub returns : goal.returns
returns c =
    let d = c.args.draft.now in
    let exprs = map expr.policy_of c.in_ok-exprs.exprs in
    let read : exprs_of d.plan.virtuals d.members ≡ Ok exprs =
    (λ i. exprs_of (sym c.as_slice.ensures i) (sym c.as_slice-members.ensures i)) ∙ c.in_ok-exprs.ensures.read in
    step_gives (exprs_of d.plan.virtuals d.members) exprs (λ es. fits_made d.plan d.members es d.head.hops)
    c.check_made.result read
    (subst (λ out. Gives out c.check_made.result)
    (λ i. fits_made d.plan d.members (map expr.policy_of (c.as_slice-2.ensures i)) d.head.hops)
    c.check_made.ensures)
