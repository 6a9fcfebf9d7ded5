-- Lists that are changed at one place.
use Rattle.std.proofs.Common.{◌≡◌, ℕ, zero, suc, List, [], ◌∷◌, Option, Some, None, refl, ap, sym, ◌∙◌}
use Rattle.std.specs.Prelude.{slice_get}
use Rattle.machine_meaning.specs.Lists.{changed_at}

-- nothing is there to be changed
pub changed_nowhere : {A : Type 0} (f : A → A) (n : ℕ) (xs : List A) → slice_get xs n ≡ None → changed_at n f xs ≡ xs
changed_nowhere f n [] e = refl
changed_nowhere f zero (x ∷ xs) e = cc
changed_nowhere f (suc n) (x ∷ xs) e = ap (λ ys. x ∷ ys) (changed_nowhere f n xs e)

-- the item stays as it is
pub changed_same : {A : Type 0} (f : A → A) (n : ℕ) (xs : List A) (x : A) → slice_get xs n ≡ Some x → f x ≡ x
    → changed_at n f xs ≡ xs
changed_same f n [] x e s = refl
changed_same f zero (y ∷ xs) x e s = let same : y ≡ x = cc in ap (λ z. z ∷ xs) (ap f same ∙ (s ∙ sym same))
changed_same f (suc n) (y ∷ xs) x e s = ap (λ ys. y ∷ ys) (changed_same f n xs x e s)

-- what is there then
pub changed_there : {A : Type 0} (f : A → A) (n : ℕ) (xs : List A) (x : A) → slice_get xs n ≡ Some x
    → slice_get (changed_at n f xs) n ≡ Some (f x)
changed_there f n [] x e = cc
changed_there f zero (y ∷ xs) x e = let same : y ≡ x = cc in ap (λ z. Some (f z)) same
changed_there f (suc n) (y ∷ xs) x e = changed_there f n xs x e

-- a change and then another are one
pub changed_twice : {A : Type 0} (f g h : A → A) (n : ℕ) (xs : List A) (x : A) → slice_get xs n ≡ Some x → g (f x) ≡ h x
    → changed_at n g (changed_at n f xs) ≡ changed_at n h xs
changed_twice f g h n [] x e s = refl
changed_twice f g h zero (y ∷ xs) x e s = let same : y ≡ x = cc in
    ap (λ z. z ∷ xs) (ap (λ z. g (f z)) same ∙ (s ∙ ap h (sym same)))
changed_twice f g h (suc n) (y ∷ xs) x e s = ap (λ ys. y ∷ ys) (changed_twice f g h n xs x e s)
