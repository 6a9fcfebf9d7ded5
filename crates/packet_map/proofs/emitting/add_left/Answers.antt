use Rattle.std.proofs.Common.{ap, ◌∙◌}
use Rattle.of10_actions.specs.Rewriting.{and_then}
use Rattle.of10_actions.specs.declared.effects.Out.{Out}
use Rattle.packet_map.specs.Sending.{emitted}
use Rattle.policy_meaning.proofs.Steps.{pushed_some}
use Rattle.packet_map.proofs.emitting.add_left.Goals as goal

pub loop-out-preserved : goal.loop-out-preserved
loop-out-preserved c =
    let v = c.args.gate.now.v in
    let ingress = c.args.gate.now.ingress in
    pushed_some (λ (o : Out). emitted v ingress (and_then c.args.rewrite.now o.rewrite) o.dest)
    c.as_slice-out-items.result.now c.loop-out.out-index c.out-item.result c.args.left.now c.loop-out.left
    c.push_some.new.self c.emitted.result
    c.loop-out-test.true c.out-item.is c.loop-out.invariant (c.emitted.ensures
    ∙ ap (λ r. emitted v ingress r c.out-item.result.dest) c.then.ensures) c.in_ok-push_some.ensures.pushed
