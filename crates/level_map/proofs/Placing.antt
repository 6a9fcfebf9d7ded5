-- What inserting a pair at its gap gives.
use Rattle.std.proofs.Common.{◌≡◌, ◌∙◌, ℕ, ◌+◌, ◌-◌, ◌<◌, ◌≤◌, false, nat_le, List, [], ◌∷◌, ◌++◌, length, take, drop}
use Rattle.std.proofs.Common.{refl, sym, ap, subst, arith}
use Rattle.std.proofs.lemmas.List.{take-append-drop, length-append, length-take}
use Rattle.std.proofs.lemmas.Bool.{lt-leb}
use Rattle.level_map.specs.declared.ranked.Ranked.{Ranked}
use Rattle.level_map.specs.Levels.{IsRising, lower, higher}
use Rattle.level_map.specs.Placing.{greatest_level, least_level, with_rank, spread, even_level, placing_new}
use Rattle.level_map.specs.declared.placed.Placed.TheVariants.{Renumbered}
use Rattle.level_map.specs.InsidePlaces.{RanksRise, IsGapFor, numbered}
use Rattle.level_map.proofs.Rising.{ranks_of_rising}
use Rattle.level_map.proofs.Levels.{least_at_least}
use Rattle.level_map.proofs.Inserting.{AllLower, AllHigher, lower_AllLower, higher_AllHigher, rising_between}
use Rattle.level_map.proofs.Inserting.{ranks_between, greatest_some}
use Rattle.level_map.proofs.Spreading.{numbered_rising, first_level, spread_numbered}

-- every level behind is from the first on
level_to_least : (r l size : ℕ) (front back : List Ranked) → IsRising r l size (front ++ back) → l ≤ size
    → l ≤ least_level size back
level_to_least r l size [] back rising fits = least_at_least r l size back rising fits
level_to_least r l size (p ∷ front) back rising fits =
    omega (
      arith,
      rising.1,
      level_to_least (p.rank + 1) (p.level + 1) size front back rising.3
          (omega (arith, rising.2)),
    )

-- the levels in front are below those behind
pub gap_in_order : (r l size : ℕ) (front back : List Ranked) → IsRising r l size (front ++ back) → l ≤ size → 1 ≤ l
    → greatest_level front ≤ least_level size back
gap_in_order r l size [] back rising fits some = omega (arith, level_to_least r l size [] back rising fits)
gap_in_order r l size (p ∷ front) back rising fits some =
    omega (
      arith,
      gap_in_order (p.rank + 1) (p.level + 1) size front back rising.3 (omega (arith, rising.2))
          (omega arith),
      level_to_least (p.rank + 1) (p.level + 1) size front back rising.3 (omega (arith, rising.2)),
    )

module _ (size rank at : ℕ) (rs : List Ranked) (rising : IsRising 0 2 size rs) (gap : IsGapFor rs rank at) where
  all_lower : AllLower rank (take at rs)
  all_lower = subst (AllLower rank) gap.lower_before (lower_AllLower rank rs)

  all_higher : AllHigher rank (drop at rs)
  all_higher = subst (AllHigher rank) gap.higher_after (higher_AllHigher rank rs)

  halves : take at rs ++ drop at rs ≡ rs
  halves = take-append-drop at rs

  -- the gap's levels are in order
  pub gap_levels : 2 ≤ size → greatest_level (take at rs) ≤ least_level size (drop at rs)
  gap_levels fits = gap_in_order 0 2 size (take at rs) (drop at rs) (subst (IsRising 0 2 size) (sym halves) rising) fits
      (omega arith)

  -- a level inside the gap keeps the pairs rising
  pub inserted_rising : (level : ℕ) → greatest_level (take at rs) < level → level < least_level size (drop at rs)
      → IsRising 0 2 size (take at rs ++ record { rank = rank; level = level } ∷ drop at rs)
  inserted_rising level above below =
      rising_between 0 2 size (take at rs) (record { rank = rank; level = level }) (drop at rs)
      (subst (IsRising 0 2 size) (sym halves) rising) all_lower all_higher above below (omega arith)
      (omega (arith, greatest_some (take at rs)))

  -- and any level their ranks
  inserted_ranks : (level : ℕ) → RanksRise 0 (take at rs ++ record { rank = rank; level = level } ∷ drop at rs)
  inserted_ranks level =
      ranks_between 0 (take at rs) (record { rank = rank; level = level }) (drop at rs)
      (subst (RanksRise 0) (sym halves) (ranks_of_rising 0 2 size rs rising)) all_lower all_higher (omega arith)

  -- the pairs with the new one
  abbrev pub longer : ℕ → List Ranked
  longer level = take at rs ++ record { rank = rank; level = level } ∷ drop at rs

  pub length_longer : (level : ℕ) → length (longer level) ≡ length rs + 1
  length_longer level =
      omega (
        arith,
        length-append (take at rs) (record { rank = rank; level = level } ∷ drop at rs),
        length-append (take at rs) (drop at rs),
        ap length halves,
      )

  -- renumbered pairs rise
  pub renumbered_rising : length rs + 3 ≤ size → IsRising 0 2 size (numbered size (length (longer 0)) 1 (longer 0))
  renumbered_rising room =
      let count = length_longer 0 in
      numbered_rising size (length (longer 0)) (omega arith) 0 1 2 (longer 0) (inserted_ranks 0) (omega arith)
      (first_level size (length (longer 0)) (omega arith))

  -- and are the pairs spread evenly
  pub renumbered_spread : numbered size (length (longer 0)) 1 (longer 0) ≡ spread size (with_rank rank 0 rs)
  renumbered_spread =
      rw (gap.lower_before, gap.higher_after) (sym (spread_numbered size (longer 0) (inserted_ranks 0)))

  -- where the gap has no middle, all pairs are spread
  pub placing_without_gap :
      (level : ℕ) (after : List Ranked) → least_level size (drop at rs) < greatest_level (take at rs) + 2
      → level ≡ even_level size (length (longer 0)) (at + 1) → after ≡ numbered size (length (longer 0)) 1 (longer 0)
      → placing_new (record { size = size; ranked = rs }) rank
      ≡ (Renumbered level, record { size = size; ranked = after })
  placing_without_gap level after close level_is after_is =
      let no_gap : nat_le 2 (least_level size (higher rank rs) - greatest_level (lower rank rs)) ≡ false =
      rw (gap.lower_before, gap.higher_after) (lt-leb _ _ (omega arith)) in
      let before : length (lower rank rs) ≡ at =
      rw gap.lower_before (length-take at rs ∙ omega (arith, gap.in_range)) in
      rw (no_gap, level_is, after_is, renumbered_spread, length_longer 0, before) refl
