-- Saturating early changes no saturated size.
use Rattle.std.proofs.Common.{◌≡◌, ℕ, ◌<◌, arith}
use Rattle.alg_priority.specs.Levels.{capped}
use Rattle.alg_priority.specs.Sizes.{sum_size, concat_size, shift_size}

pub sum_size-capped : (a b : ℕ) → 0 < a → 0 < b → capped (sum_size (capped a) (capped b)) ≡ capped (sum_size a b)
sum_size-capped a b a_some b_some = omega arith

pub concat_size-capped :
    (a b : ℕ) → 0 < a → 0 < b → capped (concat_size (capped a) (capped b)) ≡ capped (concat_size a b)
concat_size-capped a b a_some b_some = grind arith

pub shift_size-capped : (a b : ℕ) → capped (shift_size (capped a) (capped b)) ≡ capped (shift_size a b)
shift_size-capped a b = omega arith
