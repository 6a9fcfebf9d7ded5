use Rattle.std.proofs.Common.{◌∙◌, [], ap, sym, subst}
use Rattle.std.proofs.lemmas.Result.{IfOk-weaker}
use Rattle.member_state.specs.InsideRanks.{removal_planned}
use Rattle.member_state.specs.Plans.{IsReady, after_planned}
use Rattle.member_state.proofs.Plans.{removal_ready, stay_planned}
use Rattle.leaf_changes.specs.Plans.{IsPlanOf}
use Rattle.leaf_changes.proofs.PlansMade.{removals-are-plans}
use Rattle.leaf_changes.proofs.plans.stay.Goals as goal

pub returns-clause-planned : goal.returns-clause-planned
returns-clause-planned c =
    let h = c.args.kept.now in
    let sound = c.table.ensures.sound in
    IfOk-weaker c.removal.result _ _
    (λ p e now. ap (λ q. after_planned h.state q now) (e ∙ ap (removal_planned h.state) c.new.ensures)
    ∙ stay_planned h sound.table sound.kept now) c.removal.ensures

pub returns-clause-ready : goal.returns-clause-ready
returns-clause-ready c =
    let h = c.args.kept.now in
    let sound = c.table.ensures.sound in
    IfOk-weaker c.removal.result _ _
    (λ p e. subst (IsReady h) (sym (e ∙ ap (removal_planned h.state) c.new.ensures))
    (removal_ready h sound.table sound.kept [])) c.removal.ensures

pub returns-clause-plan : goal.returns-clause-plan
returns-clause-plan c =
    let h = c.args.kept.now in
    IfOk-weaker c.removal.result _ _
    (λ p e. subst (IsPlanOf h.state) (sym (e ∙ ap (removal_planned h.state) c.new.ensures))
    (removals-are-plans h.state [])) c.removal.ensures
