use Rattle.std.proofs.Common.{◌≡◌, None, IfOk, IfErr, OnOk, subst}
use Rattle.member_table.specs.Planning.{change_of}
use Rattle.member_state.specs.Changes.{accepted}
use Rattle.member_state.specs.Denials.{IsFaultOf, denial}
use Rattle.member_state.specs.Plans.{after_planned}
use Rattle.member_state.specs.States.{HeldState}
use Rattle.member_state.specs.declared.planned.Planned.{Planned}
use Rattle.member_state.proofs.state.MemberState.judge.Goals as goal

pub returns-clause-accepted : goal.returns-clause-accepted
returns-clause-accepted c =
    subst (λ (h : HeldState). OnOk c.judged.result (denial c.args.g.now c.args.v.now h.state c.args.m.now ≡ None))
    c.self.view_is c.judged.ensures.accepted

pub returns-clause-change : goal.returns-clause-change
returns-clause-change c =
    subst (λ (h : HeldState). IfOk c.judged.result
    (λ (p : Planned). p.change ≡ change_of h.state.table c.args.m.now c.args.now)) c.self.view_is
    c.judged.ensures.change

pub returns-clause-planned : goal.returns-clause-planned
returns-clause-planned c =
    subst (λ (h : HeldState). IfOk c.judged.result
    (λ (p : Planned). after_planned h.state p c.args.now ≡ accepted c.args.m.now c.args.now h.state))
    c.self.view_is c.judged.ensures.planned

pub returns-clause-fault : goal.returns-clause-fault
returns-clause-fault c =
    subst (λ (h : HeldState). IfErr c.judged.result
    (IsFaultOf (denial c.args.g.now c.args.v.now h.state c.args.m.now))) c.self.view_is c.judged.ensures.fault
