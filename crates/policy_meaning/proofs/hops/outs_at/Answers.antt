use Rattle.std.proofs.Common.{[]}
use Rattle.of10_actions.specs.declared.effects.Out.{Out}
use Rattle.policy_meaning.specs.Hops.{out_at as out_at_of}
use Rattle.policy_meaning.proofs.Steps.{pushed_some}
use Rattle.policy_meaning.proofs.hops.outs_at.Goals as goal

pub loop-out-preserved : goal.loop-out-preserved
loop-out-preserved c =
    pushed_some (λ (out : Out). out_at_of c.args.v c.args.port out.rewrite out.dest) c.as_slice-out-items.result.now
    c.loop-out.out-index c.out-item.result [] c.loop-out.kept c.push_some.new.self c.out_at.result
    c.loop-out-test.true c.out-item.is c.loop-out.invariant c.out_at.ensures c.in_ok-push_some.ensures.pushed
