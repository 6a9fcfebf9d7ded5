use Rattle.std.proofs.Common.{◌∙◌, ap, sym, subst}
use Rattle.std.proofs.lemmas.Result.{IfOk-weaker}
use Rattle.member_table.specs.Sound.{IsSound}
use Rattle.member_state.specs.InsideRanks.{removal_planned}
use Rattle.member_state.specs.Plans.{IsReady, after_planned}
use Rattle.member_state.specs.States.{HeldState, IsKept}
use Rattle.member_state.proofs.Due.{expired_planned}
use Rattle.member_state.proofs.Plans.{removal_ready}
use Rattle.member_state.proofs.state.MemberState.expire.Goals as goal

pub returns-clause-planned : goal.returns-clause-planned
returns-clause-planned c =
    let x = c.args.self.now.state in
    let sound = subst (λ (h : HeldState). IsSound h.state.table) c.self.view_is c.len.ensures.sound in
    IfOk-weaker c.removal.result _ _
    (λ p e. ap (λ q. after_planned x q c.args.now)
    (e ∙ ap (λ (h : HeldState). removal_planned h.state c.args.hard) c.self.view_is)
    ∙ expired_planned x c.args.hard c.args.now sound c.requires) c.removal.ensures

pub returns-clause-ready : goal.returns-clause-ready
returns-clause-ready c =
    let sound = subst (λ (h : HeldState). IsSound h.state.table) c.self.view_is c.len.ensures.sound in
    let kept = subst (λ (h : HeldState). IsKept h.state) c.self.view_is c.self.invariant in
    IfOk-weaker c.removal.result _ _
    (λ p e. subst (IsReady c.args.self.now)
    (sym (e ∙ ap (λ (h : HeldState). removal_planned h.state c.args.hard) c.self.view_is))
    (removal_ready c.args.self.now sound kept c.args.hard)) c.removal.ensures
