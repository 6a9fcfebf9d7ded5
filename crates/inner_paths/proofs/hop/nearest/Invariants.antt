use Rattle.std.proofs.Common.{◌≡◌, ◌≤◌, None, length, get_or, drop}
use Rattle.std.specs.Prelude.{filter_map}
use Rattle.inner_paths.specs.Hops.{lead_by, nearest}
use Rattle.inner_paths.proofs.hop.nearest.Given as goal

abbrev pub invariant-loop-left : goal.invariant-loop-left
invariant-loop-left l = (l.left ≤ length l.ways)
    × (l.best ≡ nearest (filter_map (lead_by (λ s. get_or l.distances s None) l.from) (drop l.left l.ways)))

abbrev pub decreases-loop-left : goal.decreases-loop-left
decreases-loop-left l = l.left
