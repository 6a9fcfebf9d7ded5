use Rattle.switch_tables.proofs.Sets.{all-more}
use Rattle.composed_tables.specs.Rules.{IsFitting}
use Rattle.composed_tables.proofs.rules.are_fitting.Goals as goal

pub loop-rule-preserved : goal.loop-rule-preserved
loop-rule-preserved c =
    all-more (IsFitting c.args.size) c.as_slice-rule-items.result.now c.loop-rule.rule-index c.rule-item.result
    c.loop-rule-test.true c.rule-item.is (c.is_fitting.ensures c.if-not-is_fitting.false) c.loop-rule.invariant
