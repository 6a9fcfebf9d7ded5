use Rattle.std.proofs.Common.{◌≡◌, ◌≤◌, length, drop}
use Rattle.std.specs.HashMap.{get}
use Rattle.std.specs.Map.{lookup}
use Rattle.virtual_topology.proofs.maps.map_of.Given as goal

abbrev pub invariant-loop-left : goal.invariant-loop-left
invariant-loop-left g l = (l.left ≤ length l.rows)
    × ((key : _) → get g.K.PartialEq.eq l.map key ≡ lookup (g.K.PartialEq.eq key) (drop l.left l.rows))

abbrev pub decreases-loop-left : goal.decreases-loop-left
decreases-loop-left g l = l.left
