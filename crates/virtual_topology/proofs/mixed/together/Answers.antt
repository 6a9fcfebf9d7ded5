use Rattle.std.proofs.lemmas.List.{get_or_default}
use Rattle.virtual_topology.specs.Within.{kept_of}
use Rattle.virtual_topology.proofs.Steps.{pushed_some}
use Rattle.virtual_topology.proofs.mixed.together.Goals as goal

pub loop-joint-preserved : goal.loop-joint-preserved
loop-joint-preserved c =
    pushed_some (kept_of c.args.groups.now c.args.group) c.args.outside.now c.loop-joint.joint-index _
    c.loop-joint.together.items c.push_some.new.list.items c.kept.result
    c.loop-joint-test.true (get_or_default c.args.outside.now c.loop-joint.joint-index _ _ c.loop-joint-test.true)
    c.loop-joint.invariant c.kept.ensures c.in_ok-push_some.ensures
