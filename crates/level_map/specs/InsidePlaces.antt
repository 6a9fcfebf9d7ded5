-- Where a rank stands among pairs in the order of their ranks.
use Rattle.std.specs.Prelude.{◌≡◌, ℕ, ◌+◌, ◌<◌, ◌≤◌, List, [], ◌∷◌, None, Some, length, take, drop, slice_index_or}
use Rattle.level_map.specs.declared.ranked.Ranked.{Ranked}
use Rattle.level_map.specs.Levels.{lower, higher, level_among}
use Rattle.level_map.specs.Placing.{even_level}

-- ranks from `rank` on, rising
abbrev pub RanksRise : ℕ → List Ranked → Type 0
RanksRise rank [] = Unit {0}
RanksRise rank (r ∷ rs) = (rank ≤ r.rank) × RanksRise (r.rank + 1) rs

-- the pair at this place has the rank, between the lower and the higher ones
pub record IsPlaceOf (rs : List Ranked) (rank at : ℕ) : Type 0 where
  pub in_range : at < length rs
  pub lower_before : lower rank rs ≡ take at rs
  pub higher_after : higher rank rs ≡ drop (at + 1) rs
  pub level_there : (other : Ranked) → level_among rs rank ≡ Some (slice_index_or rs at other).level

-- no pair has the rank, and it would go to this place
pub record IsGapFor (rs : List Ranked) (rank at : ℕ) : Type 0 where
  pub in_range : at ≤ length rs
  pub lower_before : lower rank rs ≡ take at rs
  pub higher_after : higher rank rs ≡ drop at rs
  pub absent : level_among rs rank ≡ None

-- the pairs with the levels of the i-th and following of `count` ranks
abbrev pub numbered : ℕ → ℕ → ℕ → List Ranked → List Ranked
numbered size count i [] = []
numbered size count i (r ∷ rs) = record { rank = r.rank; level = even_level size count i }
    ∷ numbered size count (i + 1) rs
