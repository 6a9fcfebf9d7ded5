use Rattle.std.proofs.Common.{◌≡◌, map, take}
use Rattle.policy_setting.specs.Wirings.{outside}
use Rattle.policy_setting.proofs.wires.outsides.Given as goal

abbrev pub invariant-loop-joint : goal.invariant-loop-joint
invariant-loop-joint l = l.outsides ≡ map (outside l.paths) (take l.joint-index l.joints)
