-- One complement's sums, modulo 65535.
use Rattle.std.proofs.Common.{◌==◌, ◌≡◌, ◌<◌, ◌≤◌, ◌+◌, ◌-◌, ◌*◌, ◌/◌, ◌%◌, ℕ, refl, sym, ap, ◌∙◌, inl, inr, arith}
use Rattle.std.proofs.lemmas.Bool.{cases_Bool, cases_eq, eqb-true, eqb-false, ne_eqb}
use Rattle.pkt_bytes.specs.Checksums.{IsRight, change, complement, mended, ones_sum}

-- a sum and the sum with the overflow added again
pub ones_sum_is : (total : ℕ) → (q : ℕ) × (ones_sum total + 65535 * q ≡ total)
unfolding ones_sum
ones_sum_is total =
    elim (cases_Bool (total == 0)) [
      | inl e ↦ let z = eqb-true total 0 e in (0, rw e (omega arith))
      | inr e ↦ let nz = eqb-false total 0 e in ((total - 1) / 65535, rw e (omega arith))
    ]

pub ones_sum-le : (total : ℕ) → ones_sum total ≤ 65535
unfolding ones_sum
ones_sum-le total =
    elim (cases_Bool (total == 0)) [
      | inl e ↦ rw e (omega arith)
      | inr e ↦ rw e (omega arith)
    ]

-- a right sum is a multiple of 65535 above zero
pub right_is : (total : ℕ) → IsRight total → (s : ℕ) × (total ≡ 65535 * (s + 1))
right_is total right = let q = ones_sum_is total in (q.0, omega (arith, q.1, right))

pub right_from : (total m : ℕ) → 0 < total → total ≡ 65535 * m → IsRight total
unfolding ones_sum
right_from total m above e =
    rw (ne_eqb total 0 (λ (z : total ≡ 0). omega arith)) (omega arith)

-- what a word that changes adds takes the old one to the new one
pub change_is : (old new : ℕ) → old < 65536 → (q : ℕ) × (change old new + old ≡ new + 65535 * q)
unfolding change
change_is old new fits =
    elim (cases_Bool (old == new)) [
      | inl e ↦ let same = eqb-true old new e in (0, rw e (omega arith))
      | inr e ↦ (1, rw e (omega arith))
    ]

-- and a mended checksum takes it away
pub mended_is : (checksum changes : ℕ) → checksum < 65536
    → (q : ℕ) × (mended checksum changes + changes ≡ checksum + 65535 * q)
unfolding mended
mended_is checksum changes fits =
    let sum = ones_sum_is (complement checksum + changes) in
    let below = ones_sum-le (complement checksum + changes) in
    (sum.0, omega (arith, sum.1, below))

pub mended-lt : (checksum changes : ℕ) → mended checksum changes < 65536
unfolding mended
mended-lt checksum changes = omega arith

-- a sum is zero where its total is
sum_zero : (total : ℕ) → total ≡ 0 → ones_sum total ≡ 0
unfolding ones_sum
sum_zero total e = rw e refl

zero_sum : (total : ℕ) → ones_sum total ≡ 0 → total ≡ 0
unfolding ones_sum
zero_sum total e =
    elim (cases_Bool (total == 0)) [
      | inl f ↦ eqb-true total 0 f
      | inr f ↦ let h : (total - 1) % 65535 + 1 ≡ 0 = rw f at e in absurd (omega arith)
    ]

-- numbers up to 65535 that are equal modulo 65535, and zero together
same_sum : (u v a b : ℕ) → u ≤ 65535 → v ≤ 65535 → u + 65535 * a ≡ v + 65535 * b → (u ≡ 0 → v ≡ 0) → (v ≡ 0 → u ≡ 0)
    → u ≡ v
same_sum u v a b lu lv e f g =
    elim (cases_eq u 0) [
      | inl z ↦ z ∙ sym (f z)
      | inr nu ↦ elim (cases_eq v 0) [ inl z ↦ absurd (nu (g z)) | inr nv ↦ omega arith ]
    ]

ones_sum_add : (x y : ℕ) → ones_sum (ones_sum x + y) ≡ ones_sum (x + y)
ones_sum_add x y =
    let inner = ones_sum_is x in
    let outer = ones_sum_is (ones_sum x + y) in
    let whole = ones_sum_is (x + y) in
    same_sum (ones_sum (ones_sum x + y)) (ones_sum (x + y)) (outer.0 + inner.0) whole.0 (ones_sum-le (ones_sum x + y))
    (ones_sum-le (x + y))
    (omega (arith, inner.1, outer.1, whole.1))
    (λ z. let both = zero_sum (ones_sum x + y) z in let none = zero_sum x (omega arith) in
    sum_zero (x + y) (omega arith))
    (λ z. let both = zero_sum (x + y) z in let none = sum_zero x (omega arith) in
    sum_zero (ones_sum x + y) (omega arith))

-- one word after the other is all at once
pub mended_twice : (checksum first second : ℕ)
    → mended (mended checksum first) second ≡ mended checksum (first + second)
unfolding mended
mended_twice checksum first second =
    let below = ones_sum-le (complement checksum + first) in
    let back : complement (complement (ones_sum (complement checksum + first)))
    ≡ ones_sum (complement checksum + first) = omega arith in
    let total : complement checksum + (first + second) ≡ complement checksum + first + second = omega arith in
    ap (λ (t : ℕ). complement (ones_sum (t + second))) back
    ∙ ap complement (ones_sum_add (complement checksum + first) second)
    ∙ ap (λ (t : ℕ). complement (ones_sum t)) (sym total)

-- a word that changes beside others
pub mended_right : (rest old new checksum : ℕ) → 0 < rest → old < 65536 → checksum < 65536
    → IsRight (rest + old + checksum)
    → IsRight (rest + new + mended checksum (change old new))
mended_right rest old new checksum above old_fits fits right =
    let was = right_is (rest + old + checksum) right in
    let c = change_is old new old_fits in
    let m = mended_is checksum (change old new) fits in
    right_from (rest + new + mended checksum (change old new)) (was.0 + 1 + m.0 - c.0) (omega arith)
    (omega (arith, was.1, c.1, m.1))
