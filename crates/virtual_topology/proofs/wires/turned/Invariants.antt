use Rattle.std.proofs.Common.{◌≡◌, take}
use Rattle.virtual_topology.specs.Wires.{turned}
use Rattle.virtual_topology.proofs.wires.turned.Given as goal

abbrev pub invariant-loop-joint : goal.invariant-loop-joint
invariant-loop-joint l = l.turned.items ≡ turned (take l.joint-index l.joints)
