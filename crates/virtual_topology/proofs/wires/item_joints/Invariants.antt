use Rattle.std.proofs.Common.{◌≡◌, take}
use Rattle.std.specs.Prelude.{filter_map}
use Rattle.virtual_topology.specs.Wires.{outside_row}
use Rattle.virtual_topology.proofs.wires.item_joints.Given as goal

abbrev pub invariant-loop-port : goal.invariant-loop-port
invariant-loop-port l = l.joints.items ≡ filter_map (outside_row l.known l.number) (take l.port-index l.port-items)
