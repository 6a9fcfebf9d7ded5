use Rattle.std.proofs.Common.{◌≡◌, ◌∙◌, ap, sym, subst, IfOk, IfErr, OnOk, None, Option}
use Rattle.of10_msgs.specs.declared.command.Command.{Command}
use Rattle.member_table.specs.Changes.{committed}
use Rattle.member_table.specs.Planning.{change_asked, removing}
use Rattle.member_table.specs.Refusals.{IsFaultOf, refusal_asked}
use Rattle.member_table.specs.Sound.{IsSound}
use Rattle.member_table.specs.Tables.{Held, after_asked}
use Rattle.member_table.proofs.Plans.{change_asked_makes}
use Rattle.member_table.proofs.table.Table.plan.Goals as goal

pub returns-in-Some-clause-change : goal.returns-in-Some-clause-change
returns-in-Some-clause-change c =
    let P : Option Command
    → Type 0 = λ o. IfOk c.plan_command.result
    (λ change. change ≡ change_asked o c.args.self.now.table c.args.m.now c.args.now) in
    subst P c.in-Some.ensures c.plan_command.ensures.change

pub returns-in-Some-clause-planned : goal.returns-in-Some-clause-planned
returns-in-Some-clause-planned c =
    let P : Option Command
    → Type 0 = λ o. IfOk c.plan_command.result
    (λ change. committed c.args.self.now.table change
    ≡ after_asked o c.args.self.now.table c.args.m.now c.args.now) in
    subst P c.in-Some.ensures c.plan_command.ensures.planned

pub returns-in-Some-clause-accepted : goal.returns-in-Some-clause-accepted
returns-in-Some-clause-accepted c =
    let P : Option Command
    → Type 0 = λ o. OnOk c.plan_command.result (refusal_asked o c.args.self.now.table c.args.m.now ≡ None) in
    subst P c.in-Some.ensures c.plan_command.ensures.accepted

pub returns-in-Some-clause-fault : goal.returns-in-Some-clause-fault
returns-in-Some-clause-fault c =
    let P : Option Command
    → Type 0 = λ o. IfErr c.plan_command.result (IsFaultOf (refusal_asked o c.args.self.now.table c.args.m.now)) in
    subst P c.in-Some.ensures c.plan_command.ensures.fault

pub returns-in-None-clause-change : goal.returns-in-None-clause-change
returns-in-None-clause-change c =
    c.removal.ensures
    ∙ (ap removing c.new.ensures
    ∙ ap (λ o. change_asked o c.args.self.now.table c.args.m.now c.args.now) c.in-None.ensures)

pub returns-in-None-clause-planned : goal.returns-in-None-clause-planned
returns-in-None-clause-planned c =
    let t = c.args.self.now.table in
    ap (committed t) (c.removal.ensures ∙ ap removing c.new.ensures)
    ∙ (change_asked_makes None t c.args.m.now c.args.now
    (subst (λ (h : Held). IsSound h.table) c.self.view_is c.self.invariant.sound)
    ∙ ap (λ o. after_asked o t c.args.m.now c.args.now) c.in-None.ensures)

pub returns-in-None-clause-accepted : goal.returns-in-None-clause-accepted
returns-in-None-clause-accepted c = ap (λ o. refusal_asked o c.args.self.now.table c.args.m.now) (sym c.in-None.ensures)
