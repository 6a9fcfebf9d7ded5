use Rattle.std.proofs.Common.{[], ap, ◌∙◌}
use Rattle.of10_match.specs.Matching.{at_port}
use Rattle.of10_match.specs.Fields.{MatchOf}
use Rattle.policy_meaning.specs.LeafRules.{rule_met}
use Rattle.policy_meaning.specs.declared.rule.Rule.{Rule}
use Rattle.policy_meaning.proofs.Steps.{pushed_some}
use Rattle.policy_meaning.proofs.fabric.met_at.Goals as goal

pub loop-rule-preserved : goal.loop-rule-preserved
loop-rule-preserved c =
    pushed_some (λ (a : Rule). rule_met a (at_port c.args.port)) c.as_slice-rule-items.result.now c.loop-rule.rule-index
    c.rule-item.result [] c.loop-rule.met c.push_some.new.self c.in_ok-rule_met.field-0
    c.loop-rule-test.true c.rule-item.is c.loop-rule.invariant
    (c.in_ok-rule_met.ensures ∙ ap (λ (n : MatchOf). rule_met c.rule-item.result n) c.at_port.ensures)
    c.in_ok-push_some.ensures.pushed
