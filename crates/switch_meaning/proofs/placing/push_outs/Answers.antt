use Rattle.std.proofs.Common.{Option, ◌++◌, ap, ◌∙◌}
use Rattle.switch_meaning.specs.Placing.{going}
use Rattle.switch_meaning.specs.declared.placing.Way.{Way}
use Rattle.switch_meaning.proofs.Writing.{out_more}
use Rattle.switch_meaning.proofs.placing.push_outs.Goals as goal

pub loop-out-preserved : goal.loop-out-preserved
loop-out-preserved c =
    out_more c.args.wiring.now c.args.switch c.args.ingress c.as_slice-out-items.result.now c.loop-out.out-index
    c.out-item.result c.loop-out.actions c.push_out.new.actions _
    c.loop-out.force.rewrite c.push_out.new.force.rewrite c.loop-out.force.tag c.push_out.new.force.tag
    c.loop-out-test.true c.out-item.is
    (λ later. c.in_ok-push_out.ensures later
    ∙ ap (λ (way : Option Way). c.loop-out.actions ++ going way c.loop-out.force.rewrite c.loop-out.force.tag
    c.out-item.result.rewrite later) c.way_of-way.ensures) c.loop-out.invariant
