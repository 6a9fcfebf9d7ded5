use Rattle.policy_meaning.proofs.Steps.{pushed_some}
use Rattle.explain_text.specs.Findings.{of_out}
use Rattle.explain_text.proofs.answering.add_outs.Goals as goal

pub loop-out-preserved : goal.loop-out-preserved
loop-out-preserved c =
    pushed_some (of_out c.args.topology.now) c.args.outs.now c.loop-out.out-index c.out-item.result c.args.answer.now
    c.loop-out.answer c.push_some.new.self c.leaving.result c.loop-out-test.true c.out-item.is c.loop-out.invariant
    c.leaving.ensures c.in_ok-push_some.ensures.pushed
