use Rattle.std.proofs.Common.{◌≡◌, map, take}
use Rattle.place_rules.specs.Joined.{outside_from}
use Rattle.place_rules.proofs.joining.outside.Given as goal

-- the ports so far
abbrev pub invariant-loop-joint : goal.invariant-loop-joint
invariant-loop-joint l = l.list ≡ map (outside_from l.topology) (take l.joint-index l.joint-items)
