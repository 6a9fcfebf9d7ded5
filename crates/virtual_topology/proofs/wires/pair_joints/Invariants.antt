use Rattle.std.proofs.Common.{◌≡◌, take}
use Rattle.std.specs.Prelude.{filter_map}
use Rattle.virtual_topology.specs.Wires.{pair_joint}
use Rattle.virtual_topology.proofs.wires.pair_joints.Given as goal

abbrev pub invariant-loop-pair : goal.invariant-loop-pair
invariant-loop-pair l = l.joints.items ≡ filter_map (pair_joint l.known l.role) (take l.pair-index l.pairs)
