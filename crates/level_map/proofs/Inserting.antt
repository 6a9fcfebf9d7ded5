-- Pairs with one more rank between the lower and the higher ones.
use Rattle.std.proofs.Common.{ℕ, ◌+◌, ◌<◌, ◌≤◌, List, [], ◌∷◌, ◌++◌, length, inl, inr, arith}
use Rattle.std.proofs.lemmas.Bool.{cases_lt, lt-ltb, le-ltb}
use Rattle.level_map.specs.declared.ranked.Ranked.{Ranked}
use Rattle.level_map.specs.Levels.{IsRising, lower, higher}
use Rattle.level_map.specs.Placing.{greatest_level, least_level}
use Rattle.level_map.specs.InsidePlaces.{RanksRise}

-- all ranks are lower
abbrev pub AllLower : ℕ → List Ranked → Type 0
AllLower rank [] = Unit {0}
AllLower rank (r ∷ rs) = (r.rank < rank) × AllLower rank rs

-- all ranks are higher
abbrev pub AllHigher : ℕ → List Ranked → Type 0
AllHigher rank [] = Unit {0}
AllHigher rank (r ∷ rs) = (rank < r.rank) × AllHigher rank rs

-- the lower pairs are lower
pub lower_AllLower : (rank : ℕ) (rs : List Ranked) → AllLower rank (lower rank rs)
lower_AllLower rank [] = tt
lower_AllLower rank (r ∷ rs) = elim (cases_lt r.rank rank) [
  | inl less ↦ rw (lt-ltb _ _ less) (less, lower_AllLower rank rs)
  | inr le ↦ rw (le-ltb _ _ le) (lower_AllLower rank rs)
]

-- the higher pairs are higher
pub higher_AllHigher : (rank : ℕ) (rs : List Ranked) → AllHigher rank (higher rank rs)
higher_AllHigher rank [] = tt
higher_AllHigher rank (r ∷ rs) = elim (cases_lt rank r.rank) [
  | inl less ↦ rw (lt-ltb _ _ less) (less, higher_AllHigher rank rs)
  | inr le ↦ rw (le-ltb _ _ le) (higher_AllHigher rank rs)
]

-- one more pair between them keeps levels and ranks rising
pub rising_between :
    (r l size : ℕ) (front : List Ranked) (pair : Ranked) (back : List Ranked) → IsRising r l size (front ++ back)
    → AllLower pair.rank front → AllHigher pair.rank back
    → greatest_level front < pair.level → pair.level < least_level size back → r ≤ pair.rank → l ≤ pair.level
    → IsRising r l size (front ++ pair ∷ back)
rising_between r l size [] pair [] rising low high above below from_rank from_level = (from_rank, from_level, below, tt)
rising_between r l size [] pair (p ∷ back) rising low high above below from_rank from_level =
    (from_rank, from_level, omega (arith, rising.2), (omega (arith, high.0), omega arith, rising.2, rising.3))
rising_between r l size (p ∷ front) pair back rising low high above below from_rank from_level = (
  rising.0,
  rising.1,
  rising.2,
  rising_between (p.rank + 1) (p.level + 1) size front pair back rising.3 low.1 high
      (omega arith) below (omega (arith, low.0)) (omega arith),
)

-- and ranks rising, whatever its level
pub ranks_between :
    (r : ℕ) (front : List Ranked) (pair : Ranked) (back : List Ranked) → RanksRise r (front ++ back)
    → AllLower pair.rank front → AllHigher pair.rank back → r ≤ pair.rank → RanksRise r (front ++ pair ∷ back)
ranks_between r [] pair [] rising low high from = (from, tt)
ranks_between r [] pair (p ∷ back) rising low high from = (from, (omega (arith, high.0), rising.1))
ranks_between r (p ∷ front) pair back rising low high from =
    (rising.0, ranks_between (p.rank + 1) front pair back rising.1 low.1 high (omega (arith, low.0)))

-- the greatest level is 1 or more
pub greatest_some : (rs : List Ranked) → 1 ≤ greatest_level rs
greatest_some [] = omega arith
greatest_some (r ∷ rs) = omega (arith, greatest_some rs)

-- pairs take as many levels as they are
pub room_taken : (r l size : ℕ) (rs : List Ranked) → IsRising r l size rs → l ≤ size → l + length rs ≤ size
room_taken r l size [] rising fits = omega arith
room_taken r l size (p ∷ rs) rising fits =
    omega (arith, rising.1, rising.2, room_taken (p.rank + 1) (p.level + 1) size rs rising.3 (omega (arith, rising.2)))

-- fewer pairs rise too
pub rising_without :
    (r l size : ℕ) (front : List Ranked) (pair : Ranked) (back : List Ranked) → IsRising r l size (front ++ pair ∷ back)
    → IsRising r l size (front ++ back)
rising_without r l size [] pair [] rising = tt
rising_without r l size [] pair (p ∷ back) rising =
    let rest = rising.3 in (omega (arith, rising.0, rest.0), omega (arith, rising.1, rest.1), rest.2, rest.3)
rising_without r l size (p ∷ front) pair back rising =
    (rising.0, rising.1, rising.2, rising_without (p.rank + 1) (p.level + 1) size front pair back rising.3)
