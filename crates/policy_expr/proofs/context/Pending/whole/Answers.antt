use Rattle.std.proofs.Common.{◌∙◌, ap}
use Rattle.std.proofs.lemmas.Result.{IfOk-weaker}
use Rattle.policy_expr.specs.Policy.{parallel, override}
use Rattle.policy_expr.specs.Reading.{joined}
use Rattle.policy_expr.specs.Contexts.{pending_of}
use Rattle.policy_expr.proofs.context.Pending.whole.Goals as goal

pub returns : goal.returns
returns c =
    let f = pending_of c.args.self in
    let sum = c.in_ok-sum.ensures ∙ ap (joined parallel f.par) c.in_ok-chain.ensures in
    IfOk-weaker c.joined-3.result _ _ (λ e is. is ∙ ap (joined override f.over) sum) c.joined-3.ensures
