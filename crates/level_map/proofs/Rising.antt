-- Pairs whose ranks and levels rise.
use Rattle.std.proofs.Common.{◌≡◌, ◌≢◌, ℕ, zero, suc, ◌+◌, ◌<◌, ◌≤◌, List, [], ◌∷◌, length, take, drop, get_or, Some}
use Rattle.std.proofs.Common.{None, Result, Ok, Err, IfOk, IfErr, refl, sym, ap, arith}
use Rattle.std.specs.List.Sorted.{IsSearchInRange, IsBinarySearchResult, IsNonDecreasingBy}
use Rattle.std.specs.Ordering.{nat_cmp, ordering_index}
use Rattle.std.proofs.lemmas.Cmp.{ranked}
use Rattle.std.proofs.lemmas.List.Sorted.{IsNonDecreasingBy-from_default}
use Rattle.std.proofs.lemmas.Bool.Decides.{nat_tests}
use Rattle.level_map.specs.declared.ranked.Ranked.{Ranked}
use Rattle.level_map.specs.Levels.{IsRising, level_among, lower, higher}
use Rattle.level_map.specs.InsidePlaces.{RanksRise, IsPlaceOf, IsGapFor}

-- a pair to name where there is none
abbrev pub no_pair : Ranked
no_pair = record { rank = 0; level = 0 }

abbrev pub rank_at : List Ranked → ℕ → ℕ
rank_at rs i = (get_or rs i no_pair).rank

-- the ranks of rising pairs rise
pub ranks_of_rising : (rank level size : ℕ) (rs : List Ranked) → IsRising rank level size rs → RanksRise rank rs
ranks_of_rising rank level size [] rising = tt
ranks_of_rising rank level size (r ∷ rs) rising =
    (rising.0, ranks_of_rising (r.rank + 1) (r.level + 1) size rs rising.3)

-- no rank is below the first
pub rank_at_least : (rank : ℕ) (rs : List Ranked) → RanksRise rank rs → (i : ℕ) → i < length rs → rank ≤ rank_at rs i
rank_at_least rank [] rising i in_range = absurd (omega arith)
rank_at_least rank (r ∷ rs) rising zero in_range = rising.0
rank_at_least rank (r ∷ rs) rising (suc i) in_range =
    omega (arith, rising.0, rank_at_least (r.rank + 1) rs rising.1 i (omega arith))

-- ranks rise along the pairs
pub ranks_rise : (rank : ℕ) (rs : List Ranked) → RanksRise rank rs → (i j : ℕ) → i < j → j < length rs
    → rank_at rs i < rank_at rs j
ranks_rise rank [] rising i j less in_range = absurd (omega arith)
ranks_rise rank (r ∷ rs) rising i zero less in_range = absurd (omega arith)
ranks_rise rank (r ∷ rs) rising zero (suc j) less in_range =
    omega (arith, rank_at_least (r.rank + 1) rs rising.1 j (omega arith))
ranks_rise rank (r ∷ rs) rising (suc i) (suc j) less in_range =
    ranks_rise (r.rank + 1) rs rising.1 i j (omega arith) (omega arith)

-- where the pairs before a place are lower and those from it on are not, the lower pairs are those before it
pub lower_taken :
    (rs : List Ranked) (rank at : ℕ) → ((j : ℕ) → j < at → j < length rs → rank_at rs j < rank)
    → ((j : ℕ) → at ≤ j → j < length rs → rank ≤ rank_at rs j) → lower rank rs ≡ take at rs
lower_taken [] rank zero before from = refl
lower_taken [] rank (suc at) before from = refl
lower_taken (r ∷ rs) rank zero before from =
    grind (
      arith,
      nat_tests,
      from 0 (omega arith) (omega arith),
      lower_taken rs rank 0 (λ j less in_range. absurd (omega arith))
          (λ j le in_range. from (suc j) (omega arith) (omega arith)),
    )
lower_taken (r ∷ rs) rank (suc at) before from =
    grind (
      arith,
      nat_tests,
      before 0 (omega arith) (omega arith),
      lower_taken rs rank at (λ j less in_range. before (suc j) (omega arith) (omega arith))
          (λ j le in_range. from (suc j) (omega arith) (omega arith)),
    )

-- where the pairs before a place are not higher and those from it on are, the higher pairs are those from it on
pub higher_dropped :
    (rs : List Ranked) (rank at : ℕ) → ((j : ℕ) → j < at → j < length rs → rank_at rs j ≤ rank)
    → ((j : ℕ) → at ≤ j → j < length rs → rank < rank_at rs j) → higher rank rs ≡ drop at rs
higher_dropped [] rank zero before from = refl
higher_dropped [] rank (suc at) before from = refl
higher_dropped (r ∷ rs) rank zero before from =
    grind (
      arith,
      nat_tests,
      from 0 (omega arith) (omega arith),
      higher_dropped rs rank 0 (λ j less in_range. absurd (omega arith))
          (λ j le in_range. from (suc j) (omega arith) (omega arith)),
    )
higher_dropped (r ∷ rs) rank (suc at) before from =
    grind (
      arith,
      nat_tests,
      before 0 (omega arith) (omega arith),
      higher_dropped rs rank at (λ j less in_range. before (suc j) (omega arith) (omega arith))
          (λ j le in_range. from (suc j) (omega arith) (omega arith)),
    )

-- a rank that no pair has
pub level_absent : (rs : List Ranked) (rank : ℕ) → ((j : ℕ) → j < length rs → rank_at rs j ≢ rank)
    → level_among rs rank ≡ None
level_absent [] rank other = refl
level_absent (r ∷ rs) rank other =
    grind (arith, nat_tests, other 0 (omega arith), level_absent rs rank (λ j in_range. other (suc j) (omega arith)))

-- the level of a rank is that of the first pair that has it
pub level_present :
    (rs : List Ranked) (rank at : ℕ) (d : Ranked) → at < length rs → rank_at rs at ≡ rank
    → ((j : ℕ) → j < at → rank_at rs j ≢ rank) → level_among rs rank ≡ Some (get_or rs at d).level
level_present [] rank at d in_range same other = absurd (omega arith)
level_present (r ∷ rs) rank zero d in_range same other = grind (arith, nat_tests)
level_present (r ∷ rs) rank (suc at) d in_range same other =
    grind (
      arith,
      nat_tests,
      other 0 (omega arith),
      level_present rs rank at d (omega arith) same
          (λ j less. other (suc j) (omega arith)),
    )

module _ (rs : List Ranked) (rising : RanksRise 0 rs) (rank : ℕ) where
  -- the comparisons with the rank rise along the pairs, as a binary search asks
  comparisons_rise : IsNonDecreasingBy (λ r. ordering_index (nat_cmp r.rank rank)) rs
  comparisons_rise = IsNonDecreasingBy-from_default (λ r. ordering_index (nat_cmp r.rank rank)) rs no_pair
      (λ i j le in_range.
      let rises : rank_at rs i ≤ rank_at rs j =
      grind (arith, ranks_rise 0 rs rising i j, λ (same : i ≡ j). ap (rank_at rs) same) in
      grind (arith, nat_tests))

  place_found : (at : ℕ) → at < length rs → rank_at rs at ≡ rank → IsPlaceOf rs rank at
  place_found at in_range same =
      let below : (j : ℕ) → j < at → j < length rs → rank_at rs j < rank =
      λ j less _. omega (arith, same, ranks_rise 0 rs rising j at less in_range) in
      let above : (j : ℕ) → at + 1 ≤ j → j < length rs → rank < rank_at rs j =
      λ j le within. omega (arith, same, ranks_rise 0 rs rising at j (omega arith) within) in
      record {
        in_range = in_range;
        lower_before = lower_taken rs rank at below
            (λ j le within. grind (arith, same, above j, λ (here : at ≡ j). ap (rank_at rs) here));
        higher_after = higher_dropped rs rank (at + 1)
            (λ j le within. grind (arith, same, below j, λ (here : at ≡ j). ap (rank_at rs) here)) above;
        level_there = λ d. level_present rs rank at d in_range same
            (λ j less equal. omega (arith, below j less (omega arith)));
      }

  place_free :
      (at : ℕ) → at ≤ length rs → ((j : ℕ) → j < at → rank_at rs j < rank)
      → ((j : ℕ) → at ≤ j → j < length rs → rank < rank_at rs j) → IsGapFor rs rank at
  place_free at in_range below above = record {
    in_range = in_range;
    lower_before = lower_taken rs rank at (λ j less _. below j less) (λ j le within. omega (arith, above j le within));
    higher_after = higher_dropped rs rank at (λ j less _. omega (arith, below j less)) above;
    absent = level_absent rs rank (λ j within same. grind (arith, below j, above j));
  }

  -- a binary search by rank ends at the rank, or at the gap for it
  pub searched :
      (r : Result ℕ ℕ) → IsSearchInRange r (length rs) → IsBinarySearchResult (λ pair. nat_cmp pair.rank rank) rs r
      → IfOk r (IsPlaceOf rs rank) × IfErr r (IsGapFor rs rank)
  searched (Ok at) in_range equal = (place_found at in_range (ranked _ rank _ (sym (equal no_pair))), tt)
  searched (Err at) in_range parted =
      let halves = parted comparisons_rise in (
        tt,
        place_free at in_range (λ j less. ranked _ rank _ (sym (halves.0 j no_pair (omega arith) less)))
            (λ j le within. ranked _ rank _ (sym (halves.1 j no_pair le within))),
      )
