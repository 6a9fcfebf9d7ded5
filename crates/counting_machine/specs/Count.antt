-- The rule of a machine that adds up numbers.
use Rattle.std.specs.Prelude.{◌≡◌, ℕ, ◌+◌, ◌%◌, ◌^◌, ◌==◌, Bool, true, if◌then◌else◌}
use Rattle.std.proofs.Common.{ap}

-- the sum after one more number; a 0 leaves even a sum that is too large
abbrev pub counted : ℕ → ℕ → ℕ
counted sum number = if number == 0 then sum else ((sum + number) % 2 ^ 64)

pub zero_stays : (sum number : ℕ) → (number == 0) ≡ true → counted sum number ≡ sum
zero_stays sum number is = ap (λ (b : Bool). if b then sum else ((sum + number) % 2 ^ 64)) is
