use Rattle.std.proofs.Common.{◌≡◌, ◌<◌, ◌*◌, ℕ, length}
use Rattle.hop_rules.specs.Building.{size_at}
use Rattle.hop_rules.proofs.building.next_sizes.Given as goal

abbrev pub invariant-loop-v : goal.invariant-loop-v
invariant-loop-v l = record {
  count : length l.sizes.items ≡ l.v;
  each : (k : ℕ) → k < l.v
      → size_at l.sizes.items k ≡ size_at l.own k * size_at l.peers k;
}
