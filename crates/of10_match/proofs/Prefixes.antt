-- Prefixes of addresses by their first bits.
use Rattle.std.proofs.Common.{◌≡◌, ℕ, ◌+◌, ◌-◌, ◌/◌, ◌^◌, ◌≤◌, Bool, true, false, ◌&&◌, Option, Some, None, refl, ap}
use Rattle.std.proofs.Common.{◌∙◌, arith, sym, eqb-true, leb-true, leb-false}
use Rattle.std.specs.Prelude.{◌==◌, if◌then◌else◌}
use Rattle.std.proofs.Math.Bool.{and-true}
use Rattle.std.proofs.Math.Nat.{div-div-eq-div-mul}
use Rattle.std.proofs.lemmas.Nat.{pow-add}
use Rattle.std.proofs.lemmas.Bool.Decides.{nat_tests}
use Rattle.of10_match.specs.Matching.{fits_prefix, agree_prefix, longer, is_longer, top_bits}
use Rattle.of10_match.specs.declared.header.Prefix.{Prefix}
use Rattle.of10_match.proofs.Twelve.{and_under, and-comm}

pub eqb-flip : (a b : ℕ) → (a == b) ≡ (b == a)
eqb-flip a b = grind (arith, nat_tests)

pub shorter_false : (p q : Prefix) → is_longer q p ≡ false → 32 - p.len ≤ 32 - q.len
shorter_false p q e = let lt = leb-false (32 - q.len) (32 - p.len) e in omega arith

-- the first bits are those of the longer part
pub top_bits-shorter : (n k x : ℕ) → 32 - k ≤ 32 - n → top_bits n x ≡ top_bits k x / 2 ^ ((32 - n) - (32 - k))
top_bits-shorter n k x le =
    let e : (32 - n) ≡ (32 - k) + ((32 - n) - (32 - k)) = omega arith in
    ap (λ i. x / 2 ^ i) e ∙ (ap (λ i. x / i) (pow-add 2 (32 - k) ((32 - n) - (32 - k)))
    ∙ sym (div-div-eq-div-mul x (2 ^ (32 - k)) (2 ^ ((32 - n) - (32 - k)))))

pub same_shorter : (n k x y : ℕ) → 32 - k ≤ 32 - n → top_bits k x ≡ top_bits k y → top_bits n x ≡ top_bits n y
same_shorter n k x y le e = top_bits-shorter n k x le
    ∙ (ap (λ z. z / 2 ^ ((32 - n) - (32 - k))) e ∙ sym (top_bits-shorter n k y le))

longer_cases : (p q : Prefix) (v : ℕ) (b : Bool) → is_longer q p ≡ b →
    (fits_prefix (if b then Some q else Some p) v && (if b then (top_bits p.len p.addr == top_bits p.len q.addr)
    else (top_bits q.len p.addr == top_bits q.len q.addr))) ≡ (fits_prefix (Some p) v && fits_prefix (Some q) v)
longer_cases p q v true e =
    and_under (top_bits q.len q.addr == top_bits q.len v) (top_bits p.len p.addr == top_bits p.len q.addr)
    (top_bits p.len p.addr == top_bits p.len v)
    (λ t. ap (λ z. top_bits p.len p.addr == z)
    (same_shorter p.len q.len q.addr v (leb-true (32 - q.len) (32 - p.len) e) (eqb-true _ _ t)))
    ∙ and-comm (top_bits q.len q.addr == top_bits q.len v) (top_bits p.len p.addr == top_bits p.len v)
longer_cases p q v false e =
    and_under (top_bits p.len p.addr == top_bits p.len v) (top_bits q.len p.addr == top_bits q.len q.addr)
    (top_bits q.len q.addr == top_bits q.len v)
    (λ t. ap (λ z. z == top_bits q.len q.addr)
    (same_shorter q.len p.len p.addr v (shorter_false p q e) (eqb-true _ _ t))
    ∙ eqb-flip (top_bits q.len v) (top_bits q.len q.addr))

-- the longer prefix, where the two agree, fits what both fit
pub fits_prefix-longer : (x y : Option Prefix) (v : ℕ)
    → (fits_prefix (longer x y) v && agree_prefix x y) ≡ (fits_prefix x v && fits_prefix y v)
fits_prefix-longer None y v = and-true (fits_prefix y v)
fits_prefix-longer (Some p) None v = refl
fits_prefix-longer (Some p) (Some q) v = longer_cases p q v (is_longer q p) refl
