use Rattle.policy_meaning.specs.LeafRules.{rule_met}
use Rattle.policy_meaning.proofs.Steps.{pushed_some}
use Rattle.policy_meaning.proofs.leaf_rules.add_in_cells.Goals as goal

pub loop-cell-preserved : goal.loop-cell-preserved
loop-cell-preserved c =
    pushed_some (rule_met c.args.a.now) c.as_slice-cell-items.result.now c.loop-cell.cell-index c.cell-item.result
    c.args.rules.now c.loop-cell.rules c.push_some.new.self c.in_ok-rule_met.field-0
    c.loop-cell-test.true c.cell-item.is c.loop-cell.invariant c.in_ok-rule_met.ensures c.in_ok-push_some.ensures.pushed
