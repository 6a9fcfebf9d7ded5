-- What taking a pair out gives.
use Rattle.std.proofs.Common.{◌≡◌, ℕ, suc, zero, ◌+◌, ◌<◌, ◌≤◌, List, [], ◌∷◌, ◌++◌, length, add-one, refl, arith}
use Rattle.std.specs.List.{remove}
use Rattle.level_map.specs.declared.ranked.Ranked.{Ranked}
use Rattle.level_map.specs.Levels.{IsRising, lower, higher}
use Rattle.level_map.specs.InsidePlaces.{IsPlaceOf}

-- the pairs without that at the rank's place are the lower and the higher ones
pub removed : (rank at : ℕ) (rs : List Ranked) → IsPlaceOf rs rank at → remove rs at ≡ lower rank rs ++ higher rank rs
removed rank at rs place = rw (place.lower_before, place.higher_after, add-one at) refl

-- rising pairs from further on rise from before too
earlier : (r s l m size : ℕ) (rs : List Ranked) → IsRising r l size rs → s ≤ r → m ≤ l → IsRising s m size rs
earlier r s l m size [] rising from_rank from_level = tt
earlier r s l m size (p ∷ rs) rising from_rank from_level =
    (omega (arith, rising.0), omega (arith, rising.1), rising.2, rising.3)

rising_removed : (r l size at : ℕ) (rs : List Ranked) → IsRising r l size rs → at < length rs
    → IsRising r l size (remove rs at)
rising_removed r l size at [] rising in_range = absurd (omega arith)
rising_removed r l size zero (p ∷ rs) rising in_range =
    earlier (p.rank + 1) r (p.level + 1) l size rs rising.3 (omega (arith, rising.0)) (omega (arith, rising.1))
rising_removed r l size (suc at) (p ∷ rs) rising in_range =
    (rising.0, rising.1, rising.2, rising_removed (p.rank + 1) (p.level + 1) size at rs rising.3 (omega arith))

-- without a pair the others still rise
pub removed_rising : (size rank at : ℕ) (rs : List Ranked) → IsRising 0 2 size rs → IsPlaceOf rs rank at
    → IsRising 0 2 size (remove rs at)
removed_rising size rank at rs rising place = rising_removed 0 2 size at rs rising place.in_range
