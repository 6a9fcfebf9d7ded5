use Rattle.std.proofs.Common.{◌≡◌, ◌<◌, ℕ}
use Rattle.hop_rules.specs.Levels.{stand_at}
use Rattle.hop_rules.proofs.telling.place_of.Given as goal

abbrev pub invariant-loop-place : goal.invariant-loop-place
invariant-loop-place l = (k : ℕ) → k < l.place → (stand_at l.stands k).at ≡ l.at → ⊥
