-- Ranks that are spread evenly: their levels rise, and the i-th from below stands at place i.
use Rattle.std.proofs.Common.{◌≡◌, ◌∙◌, ℕ, ◌+◌, ◌-◌, ◌*◌, ◌/◌, ◌<◌, ◌≤◌, List, [], ◌∷◌, ◌++◌, length, map, inl, inr}
use Rattle.std.proofs.Common.{refl, sym, ap, subst, arith, append_assoc, length-append}
use Rattle.std.proofs.Math.Nat.{div-lt_iff_lt-mul, div-mul-le_self, mul-le-mul_right}
use Rattle.std.proofs.lemmas.Bool.{cases_lt}
use Rattle.std.proofs.lemmas.Bool.Decides.{nat_tests}
use Rattle.level_map.specs.declared.ranked.Ranked.{Ranked}
use Rattle.level_map.specs.Levels.{IsRising, lower}
use Rattle.level_map.specs.Placing.{even_level, spread}
use Rattle.level_map.specs.InsidePlaces.{RanksRise, numbered}

-- quotients of numbers that differ by the divisor differ by 1
quotients_rise : (a b d : ℕ) → 0 < d → a + d ≤ b → a / d + 1 ≤ b / d
quotients_rise a b d some far = elim (cases_lt (b / d) (a / d + 1)) [
  | inl less ↦ let product : b < (a / d + 1) * d = (div-lt_iff_lt-mul {k = d} {x = b} {y = a / d + 1} some).0 less in
      absurd (omega (arith, div-mul-le_self a d))
  | inr le ↦ le
]

-- a higher place has a higher level
even_rises : (size count i : ℕ) → count + 2 ≤ size → even_level size count i + 1 ≤ even_level size count (i + 1)
even_rises size count i room =
    let step : i * (size - 1) + (count + 1) ≤ (i + 1) * (size - 1) = omega arith in
    omega (arith, quotients_rise (i * (size - 1)) ((i + 1) * (size - 1)) (count + 1) (omega arith) step)

-- the levels are below the size
even_fits : (size count i : ℕ) → count + 2 ≤ size → i ≤ count → even_level size count i < size
even_fits size count i room within =
    let product : i * (size - 1) < (size - 1) * (count + 1) = omega (arith, mul-le-mul_right (size - 1) within) in
    let quotient : i * (size - 1) / (count + 1) < size - 1 =
    (div-lt_iff_lt-mul {k = count + 1} {x = i * (size - 1)} {y = size - 1} (omega arith)).1 product in
    omega arith

-- numbered pairs rise
pub numbered_rising :
    (size count : ℕ) → count + 2 ≤ size → (rank i level : ℕ) (rs : List Ranked) → RanksRise rank rs
    → i + length rs ≡ count + 1 → level ≤ even_level size count i → IsRising rank level size (numbered size count i rs)
numbered_rising size count room rank i level [] rising here above = tt
numbered_rising size count room rank i level (r ∷ rs) rising here above = (
  rising.0,
  above,
  even_fits size count i room (omega arith),
  numbered_rising size count room (r.rank + 1) (i + 1) (even_level size count i + 1) rs rising.1 (omega arith)
      (even_rises size count i room),
)

-- the level of the first place is 2 or more
pub first_level : (size count : ℕ) → count + 2 ≤ size → 2 ≤ even_level size count 1
first_level size count room = omega (arith, even_rises size count 0 room)

-- no rank is below the first
lower_none : (q rank : ℕ) (rs : List Ranked) → RanksRise q rs → rank ≤ q → lower rank rs ≡ []
lower_none q rank [] rising first = refl
lower_none q rank (r ∷ rs) rising first =
    grind (arith, nat_tests, rising.0, lower_none (r.rank + 1) rank rs rising.1 (omega (arith, rising.0)))

-- a pair that stands behind others has a rank from the first on
behind : (q : ℕ) (front : List Ranked) (r : Ranked) (back : List Ranked) → RanksRise q (front ++ r ∷ back) → q ≤ r.rank
behind q [] r back rising = rising.0
behind q (p ∷ front) r back rising = omega (arith, rising.0, behind (p.rank + 1) front r back rising.1)

-- the lower ranks are those before it
lower_front : (q : ℕ) (front : List Ranked) (r : Ranked) (back : List Ranked) → RanksRise q (front ++ r ∷ back)
    → lower r.rank (front ++ r ∷ back) ≡ front
lower_front q [] r back rising = grind (arith, nat_tests, lower_none (r.rank + 1) r.rank back rising.1 (omega arith))
lower_front q (p ∷ front) r back rising =
    grind (arith, nat_tests, behind (p.rank + 1) front r back rising.1, lower_front (p.rank + 1) front r back rising.1)

-- a pair with the level of its place from below
abbrev placed : ℕ → List Ranked → Ranked → Ranked
placed size rs r = record { rank = r.rank; level = even_level size (length rs) (length (lower r.rank rs) + 1) }

placed_numbered :
    (size count : ℕ) (rs front back : List Ranked) → rs ≡ front ++ back → length rs ≡ count → RanksRise 0 rs
    → map (placed size rs) back ≡ numbered size count (length front + 1) back
placed_numbered size count rs front [] whole counted rising = refl
placed_numbered size count rs front (r ∷ back) whole counted rising =
    let below : lower r.rank rs ≡ front = rw whole (lower_front 0 front r back (subst (RanksRise 0) whole rising)) in
    let rest = placed_numbered size count rs (front ++ r ∷ []) back (whole ∙ sym (append_assoc front (r ∷ []) back))
    counted rising in
    let here = length front + 1 in
    let numbered_here : Ranked = record { rank = r.rank; level = even_level size count here } in
    let head : placed size rs r ≡ numbered_here = rw (counted, below) refl in
    let longer : length (front ++ r ∷ []) ≡ here = length-append front (r ∷ []) in
    ap (λ x. x ∷ map (placed size rs) back) head ∙ ap (λ tail. numbered_here ∷ tail) (rw longer at rest)

-- spread pairs are numbered from below
pub spread_numbered : (size : ℕ) (rs : List Ranked) → RanksRise 0 rs → spread size rs ≡ numbered size (length rs) 1 rs
spread_numbered size rs rising = placed_numbered size (length rs) rs [] rs refl refl rising
