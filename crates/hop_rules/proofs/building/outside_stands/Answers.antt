use Rattle.match_index.proofs.Lists.{got_same}
use Rattle.virtual_topology.proofs.Steps.{pushed_some}
use Rattle.hop_rules.specs.Building.{joint_stand}
use Rattle.hop_rules.proofs.building.outside_stands.Goals as goal

pub loop-joint-preserved : goal.loop-joint-preserved
loop-joint-preserved c =
    pushed_some (joint_stand c.args.whole.now c.args.peers.now) c.args.outside.now c.loop-joint.joint-index _
    c.loop-joint.stands c.push_some.new.self c.outside_stand.result
    c.loop-joint-test.true (got_same c.args.outside.now c.loop-joint.joint-index _ _ c.loop-joint-test.true)
    c.loop-joint.invariant c.outside_stand.ensures c.in_ok-push_some.ensures.pushed
