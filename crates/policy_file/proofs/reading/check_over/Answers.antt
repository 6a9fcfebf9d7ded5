use Rattle.std.proofs.Common.{Ok, map, refl}
use Rattle.policy_expr.specs.Policy as expr
use Rattle.policies.specs.Outcomes.{unless}
use Rattle.policy_file.specs.Reading.{path_fault}
use Rattle.policies.specs.Widths.{too_wide_in}
use Rattle.policy_file.proofs.Checked.{last_gives, pass_gives}
use Rattle.policy_file.proofs.reading.check_over.Goals as goal

pub returns : goal.returns
returns c =
    let plan = c.args.topology.now in
    let wide = too_wide_in plan c.args.members.now (map expr.policy_of c.args.exprs.now) c.args.hops in
    pass_gives (path_fault plan) (unless wide (Ok tt)) c.check_widths.result c.in_ok-check_paths.ensures
    (last_gives wide (Ok tt) c.check_widths.result refl c.check_widths.ensures)
