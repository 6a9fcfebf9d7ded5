use Rattle.std.proofs.Common.{[], refl}
use Rattle.policy_meaning.specs.declared.rule.Rule.{Rule}
use Rattle.policy_meaning.proofs.Steps.{pushed_some}
use Rattle.switch_meaning.specs.Placing.{entry_of}
use Rattle.agreement.specs.Entries.{flat}
use Rattle.agreement.proofs.entries.placed.Goals as goal

pub loop-rule-preserved : goal.loop-rule-preserved
loop-rule-preserved c =
    pushed_some (λ (r : Rule). entry_of c.args.wiring.now c.args.site (flat r)) c.as_slice-rule-items.result.now
    c.loop-rule.rule-index c.rule-item.result [] c.loop-rule.entries c.add_entry.new.entries
    (entry_of c.args.wiring.now c.args.site (flat c.rule-item.result)) c.loop-rule-test.true c.rule-item.is
    c.loop-rule.invariant refl c.in_ok-add_entry.ensures
