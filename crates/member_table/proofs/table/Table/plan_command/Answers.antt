use Rattle.std.proofs.Common.{◌≡◌, ◌∙◌, ℕ, ap, sym, subst, IfOk}
use Rattle.std.specs.Prelude.{Result, Ok, Err}
use Rattle.of10_msgs.specs.declared.message.FlowMod.{FlowMod}
use Rattle.member_table.specs.Changes.{committed}
use Rattle.member_table.specs.Planning.{change_by_command}
use Rattle.member_table.specs.Sound.{IsSound}
use Rattle.member_table.specs.Tables.{Held, TableOf, after_command}
use Rattle.member_table.specs.declared.change.Change.{Change}
use Rattle.of10_msgs.specs.declared.command.Command.{Command}
use Rattle.of10_msgs.specs.declared.command.Command.TheVariants.{Add, Modify, ModifyStrict, Delete, DeleteStrict}
use Rattle.member_table.specs.declared.fault.TableFault.{TableFault}
use Rattle.member_table.proofs.Plans.{change_makes_by, removal_ready}
use Rattle.member_table.proofs.table.Table.plan_command.Goals as goal

makes : (asked command : Command) → asked ≡ command → (t : TableOf) (m : FlowMod) (now : ℕ) → IsSound t
    → (planned : Result Change TableFault)
    → IfOk planned (λ change. change ≡ change_by_command command t m now)
    → IfOk planned (λ change. committed t change ≡ after_command asked t m now)
makes asked command e t m now s (Ok change) is = ap (committed t) is
    ∙ (change_makes_by command t m now s ∙ ap (λ k. after_command k t m now) (sym e))
makes asked command e t m now s (Err fault) is = tt

pub returns-in-Add-clause-planned : goal.returns-in-Add-clause-planned
returns-in-Add-clause-planned c = makes c.args.command Add c.in-Add.is c.args.self.now.table c.args.m.now c.args.now
    (subst (λ (h : Held). IsSound h.table) c.self.view_is c.self.invariant.sound) c.plan_entry.result
    c.plan_entry.ensures.change

pub returns-in-Modify-clause-planned : goal.returns-in-Modify-clause-planned
returns-in-Modify-clause-planned c = makes c.args.command Modify c.in-Modify.is c.args.self.now.table c.args.m.now
    c.args.now (subst (λ (h : Held). IsSound h.table) c.self.view_is c.self.invariant.sound) c.plan_actions.result
    c.plan_actions.ensures.change

pub returns-in-ModifyStrict-clause-planned : goal.returns-in-ModifyStrict-clause-planned
returns-in-ModifyStrict-clause-planned c =
    makes c.args.command ModifyStrict c.in-ModifyStrict.is c.args.self.now.table c.args.m.now c.args.now
    (subst (λ (h : Held). IsSound h.table) c.self.view_is c.self.invariant.sound) c.plan_actions-in-ModifyStrict.result
    c.plan_actions-in-ModifyStrict.ensures.change

pub returns-in-Delete-clause-planned : goal.returns-in-Delete-clause-planned
returns-in-Delete-clause-planned c = makes c.args.command Delete c.in-Delete.is c.args.self.now.table c.args.m.now
    c.args.now (subst (λ (h : Held). IsSound h.table) c.self.view_is c.self.invariant.sound) c.plan_removal.result
    c.plan_removal.ensures.change

pub returns-in-DeleteStrict-clause-planned : goal.returns-in-DeleteStrict-clause-planned
returns-in-DeleteStrict-clause-planned c =
    makes c.args.command DeleteStrict c.in-DeleteStrict.is c.args.self.now.table c.args.m.now c.args.now
    (subst (λ (h : Held). IsSound h.table) c.self.view_is c.self.invariant.sound) c.plan_removal-in-DeleteStrict.result
    c.plan_removal-in-DeleteStrict.ensures.change

pub returns-in-Delete-clause-ready : goal.returns-in-Delete-clause-ready
returns-in-Delete-clause-ready c = removal_ready _ _ c.plan_removal.result c.plan_removal.ensures.change

pub returns-in-DeleteStrict-clause-ready : goal.returns-in-DeleteStrict-clause-ready
returns-in-DeleteStrict-clause-ready c = removal_ready _ _ c.plan_removal-in-DeleteStrict.result
    c.plan_removal-in-DeleteStrict.ensures.change
