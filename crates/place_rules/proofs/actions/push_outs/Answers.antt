use Rattle.std.proofs.Common.{Option, ◌++◌, ap, ◌∙◌}
use Rattle.switch_meaning.specs.Placing.{going}
use Rattle.switch_meaning.specs.declared.placing.Way.{Way}
use Rattle.place_rules.specs.InsideActions.{way_kept}
use Rattle.place_rules.specs.Joined.{wiring_of}
use Rattle.place_rules.proofs.Acting.{out_more}
use Rattle.place_rules.proofs.actions.push_outs.Goals as goal

pub loop-out-preserved : goal.loop-out-preserved
loop-out-preserved c =
    out_more (way_kept (wiring_of c.args.topology.now) c.args.site c.args.in_port c.args.ingress) c.args.outs.now
    c.loop-out.out-index c.out-item.result c.loop-out.actions c.push_out.new.actions _
    c.loop-out.force.rewrite c.push_out.new.force.rewrite c.loop-out.force.tag c.push_out.new.force.tag
    c.loop-out-test.true c.out-item.is
    (λ later. c.in_ok-push_out.ensures later
    ∙ ap (λ (way : Option Way). c.loop-out.actions ++ going way c.loop-out.force.rewrite c.loop-out.force.tag
    c.out-item.result.rewrite later) c.way_kept-way.ensures) c.loop-out.invariant
