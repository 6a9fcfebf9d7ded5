use Rattle.std.proofs.Common.{◌≡◌, take}
use Rattle.virtual_topology.specs.Wires.{both_ways}
use Rattle.virtual_topology.proofs.wires.both_ways.Given as goal

abbrev pub invariant-loop-joint : goal.invariant-loop-joint
invariant-loop-joint l = l.ways.items ≡ both_ways (take l.joint-index l.joints)
