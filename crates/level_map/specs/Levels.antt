-- Levels of ranks: a finite map, as its pairs in the order of the ranks.
use Rattle.std.specs.Prelude.{◌≡◌, ℕ, ◌+◌, ◌<◌, ◌≤◌, ◌^◌, ◌==◌, nat_lt, List, [], ◌∷◌, Option, None, Some}
use Rattle.std.specs.Prelude.{if◌then◌else◌, filter}
use Rattle.level_map.specs.declared.ranked.Ranked.{Ranked}

-- how many levels there are, and the ranks that have one
pub record Levels : Type 0 where
  pub size : ℕ
  pub ranked : List Ranked

-- the level of a rank among pairs
abbrev pub level_among : List Ranked → ℕ → Option ℕ
level_among [] rank = None
level_among (r ∷ rs) rank = if r.rank == rank then Some r.level else level_among rs rank

-- the level of a rank
abbrev pub level_of : Levels → ℕ → Option ℕ
level_of m rank = level_among m.ranked rank

-- the pairs of lower ranks
abbrev pub lower : ℕ → List Ranked → List Ranked
lower rank rs = filter (λ r. nat_lt r.rank rank) rs

-- the pairs of higher ranks
abbrev pub higher : ℕ → List Ranked → List Ranked
higher rank rs = filter (λ r. nat_lt rank r.rank) rs

-- ranks from `rank` on and levels from `level` on, both rising, the levels below the size
abbrev pub IsRising : ℕ → ℕ → ℕ → List Ranked → Type 0
IsRising rank level size [] = Unit {0}
IsRising rank level size (r ∷ rs) =
    (rank ≤ r.rank) × (level ≤ r.level) × (r.level < size) × IsRising (r.rank + 1) (r.level + 1) size rs

-- a map's pairs, and 4 to 32,768 levels
pub record IsLevelling (size : ℕ) (ranked : List Ranked) : Type 0 where
  pub size_from : 4 ≤ size
  pub size_to : size ≤ 2 ^ 15
  pub rising : IsRising 0 2 size ranked

-- Levels lie from 2 to the last one, and a higher rank has a higher level.
pub record FollowsRanks (m : Levels) : Type 0 where
  pub within : (rank level : ℕ) → level_of m rank ≡ Some level → (2 ≤ level) × (level < m.size)
  pub in_order : (low high a b : ℕ) → low < high → level_of m low ≡ Some a → level_of m high ≡ Some b → a < b
