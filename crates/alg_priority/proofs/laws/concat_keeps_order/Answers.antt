use Rattle.std.proofs.Common.{◌≡◌, ℕ, ◌+◌, ◌*◌, ◌<◌, ◌⊎◌, inl, inr, refl, arith}
use Rattle.std.proofs.Math.Nat.{mul-le-mul_right}
use Rattle.std.proofs.lemmas.Bool.{cases_order}
use Rattle.alg_priority.proofs.laws.concat_keeps_order.Goals as goal

-- a smaller left part makes the smaller concatenation
lower_left : (a b c d size : ℕ) → b < size → a < c → a * size + b < c * size + d
lower_left a b c d size b_in less = omega (arith, mul-le-mul_right {m = a + 1} {n = c} size (omega arith))

-- the smaller concatenation has the smaller left part, or that and the smaller right part
by_parts :
    (a b c d size : ℕ) → d < size → a * size + b < c * size + d
    → (a ≡ c) ⊎ ((a < c) ⊎ (c < a)) → (a < c) ⊎ ((a ≡ c) × (b < d))
by_parts a b c d size d_in less (inl same) =
    let product : a * size ≡ c * size = rw same refl in inr (same, omega arith)
by_parts a b c d size d_in less (inr (inl lower)) = inl lower
by_parts a b c d size d_in less (inr (inr higher)) =
    let more : c * size + d < a * size + b = lower_left c d a b size d_in higher in absurd (omega arith)

-- back from the parts
from_parts :
    (a b c d size : ℕ) → b < size → (a < c) ⊎ ((a ≡ c) × (b < d)) → a * size + b < c * size + d
from_parts a b c d size b_in (inl lower) = lower_left a b c d size b_in lower
from_parts a b c d size b_in (inr parts) =
    let same : a ≡ c = parts.0 in
    let product : a * size ≡ c * size = rw same refl in
    let right : b < d = parts.1 in omega arith

pub returns-clause-compares : goal.returns-clause-compares
returns-clause-compares _ a b c d size b_in d_in =
    (λ less. by_parts a b c d size d_in less (cases_order a c), from_parts a b c d size b_in)
