use Rattle.std.proofs.Common.{◌≡◌, take}
use Rattle.std.specs.Prelude.{filter_map}
use Rattle.virtual_topology.specs.Within.{kept_of}
use Rattle.virtual_topology.proofs.mixed.together.Given as goal

abbrev pub invariant-loop-joint : goal.invariant-loop-joint
invariant-loop-joint l = l.together.items ≡ filter_map (kept_of l.groups l.group) (take l.joint-index l.outside)
