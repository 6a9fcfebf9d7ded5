use Rattle.fitting_changes.specs.Composers.{FitsIn}
use Rattle.fitting_changes.proofs.Composers.{one-more}
use Rattle.fitting_changes.proofs.composer.all_fit_in.Goals as goal

pub loop-rule-preserved : goal.loop-rule-preserved
loop-rule-preserved c =
    one-more (FitsIn c.args.size) c.as_slice-rule-items.result.now c.loop-rule.rule-index c.rule-item.result
    c.loop-rule-test.true c.rule-item.is (c.fits_in.ensures c.if-not-fits_in.false) c.loop-rule.invariant
