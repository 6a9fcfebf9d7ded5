use Rattle.fitting_changes.specs.Composers.{HasSize}
use Rattle.fitting_changes.proofs.Composers.{one-more}
use Rattle.fitting_changes.proofs.composer.all_have_size.Goals as goal

pub loop-table-preserved : goal.loop-table-preserved
loop-table-preserved c =
    one-more (HasSize c.args.size) c.as_slice-table-items.result.now c.loop-table.table-index c.table-item.result
    c.loop-table-test.true c.table-item.is (c.has_size.ensures c.if-not-has_size.false) c.loop-table.invariant
