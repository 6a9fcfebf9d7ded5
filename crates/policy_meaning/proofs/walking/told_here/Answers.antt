use Rattle.std.proofs.Common.{[]}
use Rattle.of10_actions.specs.declared.effects.Out.{Out}
use Rattle.policy_meaning.specs.Walk.{telling as telling_of}
use Rattle.policy_meaning.proofs.Steps.{pushed_some}
use Rattle.policy_meaning.proofs.walking.told_here.Goals as goal

pub loop-out-preserved : goal.loop-out-preserved
loop-out-preserved c =
    pushed_some (λ (out : Out). telling_of c.args.in_port out.rewrite out.dest) c.as_slice-out-items.result.now
    c.loop-out.out-index c.out-item.result [] c.loop-out.told c.push_some.new.self c.telling.result
    c.loop-out-test.true c.out-item.is c.loop-out.invariant c.telling.ensures c.in_ok-push_some.ensures.pushed
