use Rattle.std.proofs.Common.{◌≡◌, ℕ, ◌<◌, false, None, length, get_or}
use Rattle.inner_paths.specs.Distances.{distance_within, has_path}
use Rattle.inner_paths.proofs.distance.distances.Given as goal

abbrev pub invariant-loop-cables : goal.invariant-loop-cables
invariant-loop-cables l = (length l.layer.items ≡ l.count)
    × ((s : ℕ) → s < l.count → get_or l.layer.items s false ≡ has_path l.ways l.cables s l.to)
    × (length l.distances.items ≡ l.count) × ((s : ℕ) → s < l.count
    → get_or l.distances.items s None ≡ distance_within l.ways l.cables s l.to)
