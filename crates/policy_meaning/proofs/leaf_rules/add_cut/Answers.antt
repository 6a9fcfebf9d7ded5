use Rattle.std.proofs.Common.{ap, ◌∙◌}
use Rattle.of10_match.specs.Fields.{MatchOf}
use Rattle.of10_match.specs.Matching.{at_port, meet}
use Rattle.policy_meaning.proofs.Steps.{pushed_read}
use Rattle.policy_meaning.proofs.leaf_rules.add_cut.Goals as goal

pub loop-port-preserved : goal.loop-port-preserved
loop-port-preserved c =
    pushed_read (λ p. meet c.args.m.now (at_port p)) c.as_slice-port-items.result.now c.loop-port.port-index 0
    c.args.cells.now c.loop-port.cells c.push_some.new.self c.meet.result
    c.loop-port-test.true c.loop-port.invariant (c.meet.ensures.value
    ∙ ap (λ (n : MatchOf). meet c.args.m.now n) c.at_port.ensures) c.in_ok-push_some.ensures.pushed
