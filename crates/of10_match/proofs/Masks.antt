-- The bits of a number that a mask keeps.
use Rattle.std.proofs.Common.{◌≡◌, ◌<◌, ◌-◌, ◌*◌, ◌/◌, ◌%◌, ◌^◌, ℕ, subst, sym, arith}
use Rattle.std.specs.Prelude.{bit_and}
use Rattle.std.proofs.Math.Nat.{mul-mod_left}
use Rattle.std.proofs.lemmas.Nat.{and_mask}
use Rattle.std.proofs.lemmas.Nat.Bits.{and_high_mask}
use Rattle.of10_match.specs.Ranges.{IsTos}

-- the low bits
pub low-mask : (n k : ℕ) → bit_and n (2 ^ k - 1) ≡ n % 2 ^ k
low-mask n k = and_mask n k

-- the upper six bits of a byte
pub tos-mask : (n : ℕ) → n < 2 ^ 8 → bit_and n 252 ≡ n / 4 * 4
tos-mask n fits = and_high_mask 8 2 (omega arith) n fits

pub IsTos-mask : (n : ℕ) → n < 2 ^ 8 → IsTos (bit_and n 252)
IsTos-mask n fits =
    let multiple = mul-mod_left (n / 4) 4 in
    subst IsTos (sym (tos-mask n fits)) (omega arith, multiple)
