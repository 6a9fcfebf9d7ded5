-- Lists of which the first item that passes a test is changed.
use Rattle.std.proofs.Common.{◌≡◌, ℕ, zero, suc, ◌<◌, ◌≤◌, Bool, true, false, List, [], ◌∷◌, length, take, set}
use Rattle.std.proofs.Common.{get_or, refl, ap, sym, subst, ◌∙◌, arith}
use Rattle.std.specs.Prelude.{if◌then◌else◌}
use Rattle.std.specs.List.{list_any}
use Rattle.std.proofs.lemmas.Bool.{or_parts}
use Rattle.std.proofs.lemmas.List.{get_or_default, take_all}
use Rattle.waitings.specs.Lists.{changed_first}

module _ {A : Type 0} (test : A → Bool) (f : A → A) where
  -- where none passes all are as they were
  pub first_none : (xs : List A) → list_any test xs ≡ false → changed_first test f xs ≡ xs
  first_none [] h = refl
  first_none (x ∷ xs) h =
      let parts = or_parts (test x) (list_any test xs) h in
      ap (λ b. if b then f x ∷ xs else x ∷ changed_first test f xs) parts.0 ∙ ap (λ ys. x ∷ ys) (first_none xs parts.1)

  -- and where it isn't changed
  pub first_same : ((x : A) → f x ≡ x) → (xs : List A) → changed_first test f xs ≡ xs
  first_same same [] = refl
  first_same same (x ∷ xs) = by (test x) (first_same same xs)
    where
      by : (b : Bool) → changed_first test f xs ≡ xs → (if b then f x ∷ xs else x ∷ changed_first test f xs) ≡ x ∷ xs
      by true rest = ap (λ y. y ∷ xs) (same x)
      by false rest = ap (λ ys. x ∷ ys) rest

  -- the first that passes is found behind those that don't
  pub first_at : (xs : List A) (i : ℕ) (x : A) → i < length xs → x ≡ get_or xs i x → list_any test (take i xs) ≡ false
      → test x ≡ true → set xs i (f x) ≡ changed_first test f xs
  first_at [] i x within is none passes = absurd (omega arith)
  first_at (y ∷ xs) zero x within is none passes =
      let here : test y ≡ true = subst (λ z. test z ≡ true) is passes in
      ap (λ z. f z ∷ xs) is ∙ sym (ap (λ b. if b then f y ∷ xs else y ∷ changed_first test f xs) here)
  first_at (y ∷ xs) (suc i) x within is none passes =
      let parts = or_parts (test y) (list_any test (take i xs)) none in
      ap (λ zs. y ∷ zs) (first_at xs i x (omega arith) is parts.1 passes)
      ∙ sym (ap (λ b. if b then f y ∷ xs else y ∷ changed_first test f xs) parts.0)

  -- the first that passes is changed in place
  pub first_changed : (xs ys : List A) (i : ℕ) (d e y : A) → i < length xs → ys ≡ xs → list_any test (take i xs) ≡ false
      → true ≡ test (get_or ys i d) → y ≡ f (get_or ys i e) → set ys i y ≡ changed_first test f xs
  first_changed xs ys i d e y within same none passes new =
      let here : true ≡ test (get_or xs i d) = subst (λ zs. true ≡ test (get_or zs i d)) same passes in
      let made : y ≡ f (get_or xs i e) = subst (λ zs. y ≡ f (get_or zs i e)) same new in
      let read : get_or xs i e ≡ get_or xs i d = get_or_default xs i e d within in
      ap (λ zs. set zs i y) same
      ∙ (ap (set xs i) made
      ∙ first_at xs i (get_or xs i e) within (get_or_default xs i e (get_or xs i e) within) none
      (ap test read ∙ sym here))

  -- none has passed, up to the end
  pub first_past : (xs ys : List A) (i : ℕ) → length xs ≤ i → ys ≡ xs → list_any test (take i xs) ≡ false
      → ys ≡ changed_first test f xs
  first_past xs ys i past same none =
      same ∙ sym (first_none xs (subst (λ zs. list_any test zs ≡ false) (take_all i xs past) none))
