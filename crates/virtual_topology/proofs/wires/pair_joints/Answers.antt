use Rattle.virtual_topology.specs.Wires.{pair_joint}
use Rattle.virtual_topology.proofs.Steps.{pushed_some}
use Rattle.virtual_topology.proofs.wires.pair_joints.Goals as goal

pub loop-pair-preserved : goal.loop-pair-preserved
loop-pair-preserved c =
    pushed_some (pair_joint c.args.known.now c.args.role) c.args.pairs.now c.loop-pair.pair-index c.pair-item.result
    c.loop-pair.joints.items c.push_some.new.list.items c.pair_joint.result
    c.loop-pair-test.true c.pair-item.is c.loop-pair.invariant c.pair_joint.ensures c.in_ok-push_some.ensures
