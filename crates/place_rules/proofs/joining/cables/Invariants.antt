use Rattle.std.proofs.Common.{◌≡◌, map, take}
use Rattle.virtual_topology.specs.Wires.{cable_joints}
use Rattle.place_rules.specs.Joined.{cable_from}
use Rattle.place_rules.proofs.joining.cables.Given as goal

-- the cables so far
abbrev pub invariant-loop-place : goal.invariant-loop-place
invariant-loop-place l = l.list ≡ map cable_from (take l.place (cable_joints l.topology))
