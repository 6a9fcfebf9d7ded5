use Rattle.std.proofs.Common.{subst}
use Rattle.switch_tables.specs.Tables.{IsTurned, SwitchTableOf}
use Rattle.switch_tables.proofs.Switching.{turned}
use Rattle.switch_tables.proofs.switch_table.SwitchTable.change.Goals as goal

pub returns-in-Ok-clause-turned : goal.returns-in-Ok-clause-turned
returns-in-Ok-clause-turned c =
    let x : SwitchTableOf = record { gate = c.self.inside.gate; installed = c.self.inside.installed } in
    let y : SwitchTableOf = record { gate = c.change.new.self; installed = c.change-2.new.self } in
    let d = c.in_ok-delta.ensures in
    subst (λ (z : SwitchTableOf). IsTurned c.args.gone.now c.args.come.now c.args.next z y c.in-Ok.batch) c.self.view_is
    (turned c.args.gone.now c.args.come.now c.args.next x y c.in_ok-delta.delta c.in-Ok.batch
    d.after d.before d.gone d.come d.gone_once d.come_once c.are_in_range.ensures c.in-Ok.ensures.entries
    c.in-Ok.ensures.batch c.in-Ok.ensures.before)
