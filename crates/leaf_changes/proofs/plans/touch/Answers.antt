use Rattle.std.proofs.Common.{◌∙◌, ap}
use Rattle.std.proofs.lemmas.Result.{on_ok_weaker}
use Rattle.member_state.specs.Plans.{after_planned}
use Rattle.member_state.proofs.Plans.{touch_planned}
use Rattle.leaf_changes.proofs.plans.touch.Goals as goal

pub returns-clause-touched : goal.returns-clause-touched
returns-clause-touched c =
    let p = c.args.planned.now in
    on_ok_weaker c.push.result
    (λ e x now. ap (λ ts. after_planned x (record p { touched = ts }) now) e ∙ touch_planned x p c.args.serial now)
    c.push.ensures.pushed
