use Rattle.std.proofs.Common.{◌≡◌, take}
use Rattle.std.specs.Prelude.{flat_map}
use Rattle.std.specs.List.{enumerate_from}
use Rattle.virtual_topology.specs.Wires.{item_joints}
use Rattle.virtual_topology.proofs.wires.outside_joints.Given as goal

abbrev pub invariant-loop-number : goal.invariant-loop-number
invariant-loop-number l = l.joints.items ≡ flat_map (item_joints l.known) (take l.number (enumerate_from 0 l.virtuals))
