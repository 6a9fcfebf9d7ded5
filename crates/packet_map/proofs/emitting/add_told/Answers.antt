use Rattle.std.proofs.Common.{ap, ◌∙◌}
use Rattle.of10_actions.specs.Rewriting.{and_then}
use Rattle.of10_actions.specs.declared.effects.Out.{Out}
use Rattle.policy_meaning.specs.Walk.{telling}
use Rattle.policy_meaning.proofs.Steps.{pushed_some}
use Rattle.packet_map.proofs.emitting.add_told.Goals as goal

pub loop-out-preserved : goal.loop-out-preserved
loop-out-preserved c =
    let p = c.args.in_port in
    pushed_some (λ (o : Out). telling p (and_then c.args.rewrite.now o.rewrite) o.dest) c.as_slice-out-items.result.now
    c.loop-out.out-index c.out-item.result c.args.told.now c.loop-out.told c.push_some.new.self c.telling.result
    c.loop-out-test.true c.out-item.is c.loop-out.invariant (c.telling.ensures
    ∙ ap (λ r. telling p r c.out-item.result.dest) c.then.ensures) c.in_ok-push_some.ensures.pushed
