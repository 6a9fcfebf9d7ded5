use Rattle.std.proofs.Common.{◌∙◌}
use Rattle.machine_meaning.specs.Replacing.{exprs_with}
use Rattle.event_acts.proofs.replacing.exprs_with.Goals as goal

pub returns : goal.returns
returns c =
    c.set_expr.ensures
    ∙ (λ i. exprs_with c.args.v (c.in_ok-other.ensures i) (c.in_ok-all.ensures i))
