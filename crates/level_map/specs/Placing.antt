-- How a rank gets its level, and loses it.
use Rattle.std.specs.Prelude.{◌≡◌, ◌≢◌, ℕ, ◌+◌, ◌-◌, ◌*◌, ◌/◌, nat_le, List, [], ◌∷◌, ◌++◌, Option, None, Some, IsNone}
use Rattle.std.specs.Prelude.{is_some, if◌then◌else◌, length, map, min, max}
use Rattle.level_map.specs.declared.ranked.Ranked.{Ranked}
use Rattle.level_map.specs.declared.placed.Placed.{Placed}
use Rattle.level_map.specs.declared.placed.Placed.TheVariants.{Kept, Renumbered}
use Rattle.level_map.specs.declared.placed.PlaceFault.{PlaceFault}
use Rattle.level_map.specs.declared.placed.PlaceFault.TheVariants.{Full, Memory}
use Rattle.level_map.specs.Levels.{Levels, level_of, lower, higher}

-- the greatest level of these, or 1
abbrev pub greatest_level : List Ranked → ℕ
greatest_level [] = 1
greatest_level (r ∷ rs) = max r.level (greatest_level rs)

-- the least level of these, or the size
abbrev pub least_level : ℕ → List Ranked → ℕ
least_level size [] = size
least_level size (r ∷ rs) = min r.level (least_level size rs)

-- the level below the gap that a new rank falls into
abbrev pub level_below : Levels → ℕ → ℕ
level_below m rank = greatest_level (lower rank m.ranked)

-- the level above that gap
abbrev pub level_above : Levels → ℕ → ℕ
level_above m rank = least_level m.size (higher rank m.ranked)

-- the middle of a gap
abbrev pub middle : ℕ → ℕ → ℕ
middle low high = low + (high - low) / 2

-- the pairs with one more
abbrev pub with_rank : ℕ → ℕ → List Ranked → List Ranked
with_rank rank level rs = lower rank rs ++ record { rank = rank; level = level } ∷ higher rank rs

-- the level of the i-th rank from below, from 1, where `count` ranks are spread evenly
abbrev pub even_level : ℕ → ℕ → ℕ → ℕ
even_level size count i = 1 + i * (size - 1) / (count + 1)

-- the same ranks, spread evenly
abbrev pub spread : ℕ → List Ranked → List Ranked
spread size rs =
    map (λ r. record { rank = r.rank; level = even_level size (length rs) (length (lower r.rank rs) + 1) }) rs

-- What placing a rank answers, and the map after it: a rank that is there keeps its level, a new one gets
-- the middle of its gap, and where there is no gap all ranks are spread evenly.
abbrev pub placing_new : Levels → ℕ → Placed × Levels
placing_new m rank =
    let low = level_below m rank in
    let high = level_above m rank in
    if nat_le 2 (high - low)
    then (Kept (middle low high), record { size = m.size; ranked = with_rank rank (middle low high) m.ranked })
    else (
      Renumbered (even_level m.size (length m.ranked + 1) (length (lower rank m.ranked) + 1)),
      record { size = m.size; ranked = spread m.size (with_rank rank 0 m.ranked) },
    )

abbrev pub placing_by : Option ℕ → Levels → ℕ → Placed × Levels
placing_by None m rank = placing_new m rank
placing_by (Some level) m rank = (Kept level, m)

abbrev pub placing : Levels → ℕ → Placed × Levels
placing m rank = placing_by (level_of m rank) m rank

-- the rank is new, and all levels but 0 and 1 are taken
abbrev pub HasNoRoom : Levels → ℕ → Type 0
HasNoRoom m rank = IsNone (level_of m rank) × (length m.ranked ≡ m.size - 2)

-- which fault it is
abbrev pub IsFaultOf : Levels → ℕ → PlaceFault → Type 0
IsFaultOf m rank (Full ranks limit) = HasNoRoom m rank × (ranks ≡ m.size - 2) × (limit ≡ m.size - 2)
IsFaultOf m rank Memory = IsNone (level_of m rank)

-- the level that placing answered
abbrev pub answered : Placed → ℕ
answered (Kept level) = level
answered (Renumbered level) = level

-- Every other rank keeps its level, unless all were renumbered; then the same other ranks are there.
abbrev pub KeepsOthers : Levels → Levels → ℕ → Placed → Type 0
KeepsOthers old new rank (Kept level) = (r : ℕ) → r ≢ rank → level_of new r ≡ level_of old r
KeepsOthers old new rank (Renumbered level) = (r : ℕ) → r ≢ rank → is_some (level_of new r) ≡ is_some (level_of old r)

-- the map without a rank
abbrev pub dropping : Levels → ℕ → Levels
dropping m rank = record { size = m.size; ranked = lower rank m.ranked ++ higher rank m.ranked }
