use Rattle.std.proofs.Common.{◌∙◌, ap, sym, subst}
use Rattle.std.proofs.lemmas.Result.{IfOk-weaker}
use Rattle.member_state.specs.Plans.{IsReady, after_planned}
use Rattle.member_state.proofs.Due.{expired_planned}
use Rattle.member_state.proofs.Plans.{removal_ready}
use Rattle.leaf_changes.specs.Plans.{IsPlanOf}
use Rattle.leaf_changes.proofs.PlansMade.{removals-are-plans}
use Rattle.leaf_changes.proofs.plans.expire.Goals as goal

pub returns-clause-planned : goal.returns-clause-planned
returns-clause-planned c =
    let x = c.args.kept.now.state in
    IfOk-weaker c.removal.result _ _
    (λ p e. ap (λ q. after_planned x q c.args.now) e
    ∙ expired_planned x c.args.hard c.args.now c.table.ensures.sound.table c.requires) c.removal.ensures

pub returns-clause-ready : goal.returns-clause-ready
returns-clause-ready c =
    let h = c.args.kept.now in
    let sound = c.table.ensures.sound in
    IfOk-weaker c.removal.result _ _
    (λ p e. subst (IsReady h) (sym e) (removal_ready h sound.table sound.kept c.args.hard)) c.removal.ensures

pub returns-clause-plan : goal.returns-clause-plan
returns-clause-plan c =
    let x = c.args.kept.now.state in
    IfOk-weaker c.removal.result _ _
    (λ p e. subst (IsPlanOf x) (sym e) (removals-are-plans x c.args.hard)) c.removal.ensures
