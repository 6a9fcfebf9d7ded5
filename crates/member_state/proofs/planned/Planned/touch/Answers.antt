use Rattle.std.proofs.Common.{◌∙◌, ap}
use Rattle.std.proofs.lemmas.Result.{on_ok_weaker}
use Rattle.member_state.specs.Plans.{after_planned}
use Rattle.member_state.proofs.Plans.{touch_planned}
use Rattle.member_state.proofs.planned.Planned.touch.Goals as goal

pub returns-clause-touched : goal.returns-clause-touched
returns-clause-touched c =
    on_ok_weaker c.push.result (λ e x now. ap (λ ts. after_planned x (record c.args.self.now { touched = ts }) now) e
    ∙ touch_planned x c.args.self.now c.args.serial now) c.push.ensures.pushed
