use Rattle.std.proofs.Common.{map, subst}
use Rattle.policy_expr.specs.Policy as expr
use Rattle.policies.specs.Outcomes.{Gives}
use Rattle.policy_file.specs.Reading.{fits_over, topology_fault}
use Rattle.policy_file.proofs.Checked.{pass_gives}
use Rattle.policy_file.proofs.reading.check_made.Goals as goal

pub returns : goal.returns
returns c =
    let d = c.args.draft.now in
    let exprs = map expr.policy_of c.args.exprs.now in
    pass_gives (topology_fault d.plan) (fits_over d.plan d.members exprs d.head.hops) c.check_over.result
    c.in_ok-topology.ensures.fault
    (subst (λ out. Gives out c.check_over.result)
    (λ i. fits_over (c.in_ok-topology.ensures.made i) (c.as_slice-members.ensures i) exprs d.head.hops)
    c.check_over.ensures)
