use Rattle.install_plan.specs.Tables.{IsTable}
use Rattle.switch_tables.specs.Tables.{SwitchTableOf}
use Rattle.switch_tables.proofs.Sets.{all-more}
use Rattle.composed_tables.proofs.composed.are_tables.Goals as goal

pub loop-table-preserved : goal.loop-table-preserved
loop-table-preserved c =
    all-more (λ (x : SwitchTableOf). IsTable x.installed.now) c.as_slice-table-items.result.now c.loop-table.table-index
    c.table-item.result c.loop-table-test.true c.table-item.is c.is_table.ensures c.loop-table.invariant
