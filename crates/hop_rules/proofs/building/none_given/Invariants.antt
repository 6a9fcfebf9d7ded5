use Rattle.std.proofs.Common.{◌≡◌, ◌<◌, ℕ, length}
use Rattle.hop_rules.specs.Building.{none_of}
use Rattle.hop_rules.specs.Levels.{given_at}
use Rattle.hop_rules.proofs.building.none_given.Given as goal

abbrev pub invariant-loop-v : goal.invariant-loop-v
invariant-loop-v l = record {
  count : length l.given ≡ l.v;
  each : (k : ℕ) → k < l.v
      → given_at l.given k ≡ none_of l.ends k;
}
