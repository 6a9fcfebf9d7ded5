-- What is found in a list.
use Rattle.std.proofs.Common.{◌≡◌, ℕ, zero, suc, Bool, true, false, ◌||◌, List, [], ◌∷◌, Option, Some, None, refl}
use Rattle.std.proofs.Common.{subst}
use Rattle.std.specs.Prelude.{IfSome, find, if◌then◌else◌, is_some, slice_get}
use Rattle.std.specs.List.{AllByRecursion, list_any}
use Rattle.policy_meaning.proofs.Booleans.{some_injective}

found-next : {A : Type 0} (P : A → Type 0) (test : A → Bool) (x a : A) (b : Bool) (o : Option A) → test x ≡ b
    → (if b then Some x else o) ≡ Some a → P x → (o ≡ Some a → P a × (test a ≡ true)) → P a × (test a ≡ true)
found-next P test x a true o t e p rest = subst (λ z. P z × (test z ≡ true)) (some_injective e) (p, t)
found-next P test x a false o t e p rest = rest e

-- it passes the test, and is as all items are
pub find-gives : {A : Type 0} (P : A → Type 0) (test : A → Bool) (xs : List A) (a : A) → AllByRecursion P xs
    → find test xs ≡ Some a → P a × (test a ≡ true)
find-gives P test [] a all e = cc
find-gives P test (x ∷ xs) a all e = found-next P test x a (test x) (find test xs) refl e all.0
    (λ f. find-gives P test xs a all.1 f)

pub if-found : {A : Type 0} (P : A → Type 0) (o : Option A) → ((a : A) → o ≡ Some a → P a) → IfSome o P
if-found P None f = tt
if-found P (Some a) f = f a refl

some-next : {A : Type 0} (b c : Bool) (x : A) (o : Option A) → is_some o ≡ c
    → is_some (if b then Some x else o) ≡ (b || c)
some-next true c x o e = refl
some-next false c x o e = e

-- something is found where some item passes
pub is_some-find : {A : Type 0} (test : A → Bool) (xs : List A) → is_some (find test xs) ≡ list_any test xs
is_some-find test [] = refl
is_some-find test (x ∷ xs) = some-next (test x) (list_any test xs) x (find test xs) (is_some-find test xs)

-- the one item of a list
pub only : {A : Type 0} (P : ℕ → A → Type 0) (x : A) → P 0 x → (k : ℕ) (a : A) → slice_get (x ∷ []) k ≡ Some a → P k a
only P x p zero a e = subst (P 0) (some_injective e) p
only P x p (suc k) a e = cc
