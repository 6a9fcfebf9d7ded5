use Rattle.virtual_topology.specs.Wires.{outside_row}
use Rattle.virtual_topology.proofs.Steps.{pushed_some}
use Rattle.virtual_topology.proofs.wires.item_joints.Goals as goal

pub loop-port-preserved : goal.loop-port-preserved
loop-port-preserved c =
    pushed_some (outside_row c.args.known.now c.args.number) c.as_slice-port-items.result.now c.loop-port.port-index
    c.port-item.result c.loop-port.joints.items c.push_some.new.list.items c.outside_row.result
    c.loop-port-test.true c.port-item.is c.loop-port.invariant c.outside_row.ensures c.in_ok-push_some.ensures
