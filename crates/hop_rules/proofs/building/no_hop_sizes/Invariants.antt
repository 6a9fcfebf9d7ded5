use Rattle.std.proofs.Common.{◌≡◌, ℕ}
use Rattle.hop_rules.specs.Building.{size_at}
use Rattle.hop_rules.proofs.building.no_hop_sizes.Given as goal

abbrev pub invariant-loop-one : goal.invariant-loop-one
invariant-loop-one l = (k : ℕ) → size_at l.sizes.items k ≡ 1
