use Rattle.std.proofs.Common.{[]}
use Rattle.of10_actions.specs.declared.effects.Out.{Out}
use Rattle.policy_meaning.specs.Walk.{port_out as port_out_of}
use Rattle.policy_meaning.proofs.Steps.{pushed_some}
use Rattle.policy_meaning.proofs.walking.outs_here.Goals as goal

pub loop-out-preserved : goal.loop-out-preserved
loop-out-preserved c =
    pushed_some (λ (out : Out). port_out_of c.args.v c.args.in_port out.rewrite out.dest)
    c.as_slice-out-items.result.now c.loop-out.out-index c.out-item.result [] c.loop-out.left c.push_some.new.self
    c.port_out.result
    c.loop-out-test.true c.out-item.is c.loop-out.invariant c.port_out.ensures c.in_ok-push_some.ensures.pushed
