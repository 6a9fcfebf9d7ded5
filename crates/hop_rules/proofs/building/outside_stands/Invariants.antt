use Rattle.std.proofs.Common.{◌≡◌, take}
use Rattle.std.specs.Prelude.{filter_map}
use Rattle.hop_rules.specs.Building.{joint_stand}
use Rattle.hop_rules.proofs.building.outside_stands.Given as goal

abbrev pub invariant-loop-joint : goal.invariant-loop-joint
invariant-loop-joint l = l.stands ≡ filter_map (joint_stand l.whole l.peers) (take l.joint-index l.outside)
