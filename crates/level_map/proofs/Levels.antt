-- The levels at the ends of pairs whose levels rise, and levels that are spread evenly.
use Rattle.std.proofs.Common.{◌≡◌, ℕ, zero, suc, ◌+◌, ◌<◌, ◌≤◌, List, [], ◌∷◌, ◌++◌, length, take, drop, get_or, set}
use Rattle.std.proofs.Common.{refl, ap, arith}
use Rattle.level_map.specs.declared.ranked.Ranked.{Ranked}
use Rattle.level_map.specs.Levels.{IsRising}
use Rattle.level_map.specs.Placing.{greatest_level, least_level, even_level}
use Rattle.level_map.specs.InsidePlaces.{numbered}

-- the first level that may come is at most the greatest one
level_at_least : (rank level size : ℕ) (rs : List Ranked) (d : Ranked) → IsRising rank level size rs → (i : ℕ)
    → i < length rs → level ≤ (get_or rs i d).level
level_at_least rank level size [] d rising i in_range = absurd (omega arith)
level_at_least rank level size (r ∷ rs) d rising zero in_range = rising.1
level_at_least rank level size (r ∷ rs) d rising (suc i) in_range =
    omega (arith, rising.1, level_at_least (r.rank + 1) (r.level + 1) size rs d rising.3 i (omega arith))

-- the greatest level before a place is that of the pair before it
pub greatest_before :
    (rank level size : ℕ) (rs : List Ranked) (d : Ranked) → 1 ≤ level → IsRising rank level size rs
    → (i : ℕ) → i < length rs → greatest_level (take (suc i) rs) ≡ (get_or rs i d).level
greatest_before rank level size [] d some rising i in_range = absurd (omega arith)
greatest_before rank level size (r ∷ rs) d some rising zero in_range = omega (arith, rising.1)
greatest_before rank level size (r ∷ rs) d some rising (suc i) in_range =
    let rest = greatest_before (r.rank + 1) (r.level + 1) size rs d (omega arith) rising.3 i (omega arith) in
    omega (arith, rest, level_at_least (r.rank + 1) (r.level + 1) size rs d rising.3 i (omega arith))

-- the least level of rising pairs is at least the first that may come
pub least_at_least : (rank level size : ℕ) (rs : List Ranked) → IsRising rank level size rs → level ≤ size
    → level ≤ least_level size rs
least_at_least rank level size [] rising fits = fits
least_at_least rank level size (r ∷ rs) rising fits =
    omega (
      arith,
      rising.1,
      rising.2,
      least_at_least (r.rank + 1) (r.level + 1) size rs rising.3
          (omega (arith, rising.2)),
    )

-- the least level from a place on is that of the pair there
pub least_from :
    (rank level size : ℕ) (rs : List Ranked) (d : Ranked) → IsRising rank level size rs
    → (i : ℕ) → i < length rs → least_level size (drop i rs) ≡ (get_or rs i d).level
least_from rank level size [] d rising i in_range = absurd (omega arith)
least_from rank level size (r ∷ rs) d rising zero in_range =
    omega (arith, rising.2, least_at_least (r.rank + 1) (r.level + 1) size rs rising.3 (omega (arith, rising.2)))
least_from rank level size (r ∷ rs) d rising (suc i) in_range =
    least_from (r.rank + 1) (r.level + 1) size rs d rising.3 i (omega arith)

-- from the end on there is none
pub least_from_end : (size : ℕ) (rs : List Ranked) (i : ℕ) → length rs ≤ i → least_level size (drop i rs) ≡ size
least_from_end size [] zero past = refl
least_from_end size [] (suc i) past = refl
least_from_end size (r ∷ rs) zero past = absurd (omega arith)
least_from_end size (r ∷ rs) (suc i) past = least_from_end size rs i (omega arith)

-- one more pair is numbered
pub numbered_more :
    (size count first : ℕ) (rs : List Ranked) (i n : ℕ) (d : Ranked) → i < length rs → n ≡ first + i
    → set (numbered size count first (take i rs) ++ drop i rs) i
    (record (get_or (numbered size count first (take i rs) ++ drop i rs) i d) { level = even_level size count n })
    ≡ numbered size count first (take (suc i) rs) ++ drop (suc i) rs
numbered_more size count first [] i n d in_range here = absurd (omega arith)
numbered_more size count first (r ∷ rs) zero n d in_range here =
    let e : n ≡ first = omega arith in rw e refl
numbered_more size count first (r ∷ rs) (suc i) n d in_range here =
    ap (λ rest. record { rank = r.rank; level = even_level size count first } ∷ rest)
    (numbered_more size count (first + 1) rs i n d (omega arith) (omega arith))
