-- What one thing alone can be permuted to.
use Rattle.std.proofs.Common.{◌≡◌, List, [], ◌∷◌, length, refl, ap, arith}
use Rattle.std.specs.Prelude.{IsPermutation}
use Rattle.std.specs.List.{AllByRecursion}
use Rattle.std.proofs.lemmas.List.Sorted.{length_permutation}
use Rattle.policy_meaning.proofs.Rising.{all-permuted}

one-of : {A : Type 0} (x : A) (ys : List A) → length ys ≡ 1 → AllByRecursion (λ z. z ≡ x) ys → ys ≡ x ∷ []
one-of x [] e a = absurd (cc)
one-of x (y ∷ []) e a = ap (λ z. z ∷ []) a.0
one-of x (y ∷ z ∷ zs) e a = absurd (omega (arith, e))

pub single : {A : Type 0} (x : A) (ys : List A) → IsPermutation (x ∷ []) ys → ys ≡ x ∷ []
single x ys p = one-of x ys (length_permutation (x ∷ []) ys p) (all-permuted (x ∷ []) ys p (λ z. z ≡ x) (refl, tt))
