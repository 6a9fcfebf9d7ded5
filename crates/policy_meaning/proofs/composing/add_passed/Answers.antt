use Rattle.policy_meaning.specs.Rules.{chain_rule}
use Rattle.policy_meaning.proofs.Steps.{pushed_some}
use Rattle.policy_meaning.proofs.composing.add_passed.Goals as goal

pub loop-b-preserved : goal.loop-b-preserved
loop-b-preserved c =
    pushed_some (chain_rule c.args.size c.args.rewrite.now c.args.a.now) c.as_slice-b-items.result.now c.loop-b.b-index
    c.b-item.result c.args.rules.now c.loop-b.rules c.push_some.new.self c.in_ok-chain_rule.field-0
    c.loop-b-test.true c.b-item.is c.loop-b.invariant c.in_ok-chain_rule.ensures c.in_ok-push_some.ensures.pushed
