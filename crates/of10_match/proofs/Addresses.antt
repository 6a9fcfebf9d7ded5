-- Two addresses in a prefix that differ, where it leaves a bit open.
use Rattle.std.proofs.Common.{◌≡◌, ◌<◌, ◌≤◌, ◌+◌, ◌-◌, ◌*◌, ◌/◌, ◌%◌, ◌^◌, ℕ, zero, suc, true, Option, Some, None, refl}
use Rattle.std.proofs.Common.{◌∙◌, ap, sym, arith, eq-eqb}
use Rattle.std.specs.Prelude.{IfSome}
use Rattle.std.proofs.Math.Nat.{div-add-mod', div-lt_iff_lt-mul, mod-lt, mul-le-mul_right, pow-le-pow_right, pow-suc}
use Rattle.std.proofs.lemmas.Nat.{div-mul-add, pow_pos, pow-add}
use Rattle.of10_match.specs.Matching.{fits_prefix, top_bits}
use Rattle.of10_match.specs.Ranges.{IsPrefix}
use Rattle.of10_match.specs.Wildcards.{address_of}
use Rattle.of10_match.specs.declared.header.Prefix.{Prefix}
use Rattle.of10_match.proofs.Sample.{Picks}

-- the first address of a prefix
abbrev pub first_address : Option Prefix → ℕ
first_address o = address_of o

-- the address in which the first open bit is set as well
abbrev pub second_address : Option Prefix → ℕ
second_address None = 2 ^ 31
second_address (Some p) = p.addr + 2 ^ (32 - p.len) / 2

pub Picks-first : Picks first_address
Picks-first = record { within = first_within; in_range = first_in_range } where
  first_within : (o : Option Prefix) → IfSome o IsPrefix → fits_prefix o (first_address o) ≡ true
  first_within None p = refl
  first_within (Some q) p = eq-eqb (top_bits q.len q.addr) (top_bits q.len q.addr) refl

  first_in_range : (o : Option Prefix) → IfSome o IsPrefix → first_address o < 2 ^ 32
  first_in_range None p = omega arith
  first_in_range (Some q) p = p.2

-- half of a power of two is below it
half_below : (j : ℕ) → 2 ^ j / 2 < 2 ^ j
half_below j = let positive = pow_pos j in omega arith

-- an address whose j low bits are zero has room for those bits
low_bits_free : (j x y : ℕ) → j ≤ 32 → x % 2 ^ j ≡ 0 → x < 2 ^ 32 → y < 2 ^ j
    → ((x + y) / 2 ^ j ≡ x / 2 ^ j) × (x + y < 2 ^ 32)
low_bits_free j x y most multiple small less =
    let c = x / 2 ^ j in
    let whole : x ≡ c * 2 ^ j = let split = div-add-mod' x (2 ^ j) in omega arith in
    let parts : 2 ^ 32 ≡ 2 ^ (32 - j) * 2 ^ j = let e : 32 ≡ (32 - j) + j = omega arith in ap (λ n. 2 ^ n) e
    ∙ pow-add 2 (32 - j) j in
    let place : c < 2 ^ (32 - j) = (div-lt_iff_lt-mul {k = 2 ^ j} {x = x} {y = 2 ^ (32 - j)} (pow_pos j)).1
    (omega arith) in
    let room : (c + 1) * 2 ^ j ≤ 2 ^ (32 - j) * 2 ^ j = mul-le-mul_right (2 ^ j) (omega arith) in
    (ap (λ n. (n + y) / 2 ^ j) whole ∙ div-mul-add c (2 ^ j) y less, omega arith)

pub Picks-second : Picks second_address
Picks-second = record { within = second_within; in_range = second_in_range } where
  second_within : (o : Option Prefix) → IfSome o IsPrefix → fits_prefix o (second_address o) ≡ true
  second_within None p = refl
  second_within (Some q) p =
      let free = low_bits_free (32 - q.len) q.addr (2 ^ (32 - q.len) / 2) (omega arith) p.3 p.2
      (half_below (32 - q.len)) in
      eq-eqb (top_bits q.len q.addr) (top_bits q.len (second_address (Some q))) (sym free.0)

  second_in_range : (o : Option Prefix) → IfSome o IsPrefix → second_address o < 2 ^ 32
  second_in_range None p = omega arith
  second_in_range (Some q) p =
      (low_bits_free (32 - q.len) q.addr (2 ^ (32 - q.len) / 2) (omega arith) p.3 p.2 (half_below (32 - q.len))).1

-- a prefix that leaves fewer bits open does not hold both
pub second_apart : (j k x : ℕ) → k < j → x / 2 ^ k ≡ (x + 2 ^ j / 2) / 2 ^ k → ⊥
second_apart zero k x below e = absurd (omega arith)
second_apart (suc j) k x below e =
    let half : 2 ^ suc j / 2 ≡ 2 ^ j = let double = pow-suc 2 j in omega arith in
    let step : 2 ^ k ≤ 2 ^ j = pow-le-pow_right {n = 2} (omega arith) {i = k} {j = j} (omega arith) in
    let y = x + 2 ^ suc j / 2 in
    let quotient = ap (λ n. n * 2 ^ k) e in
    let low = div-add-mod' x (2 ^ k) in
    let high = div-add-mod' y (2 ^ k) in
    let rest = mod-lt y (pow_pos k) in
    absurd (omega arith)
