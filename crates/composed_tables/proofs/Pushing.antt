-- Lists with one item more, or another one in its place.
use Rattle.std.proofs.Common.{◌≡◌, ℕ, zero, suc, ◌<◌, List, [], ◌∷◌, ◌++◌, Option, Some, None, length, map, set, refl}
use Rattle.std.proofs.Common.{sym, ap, subst, ◌∙◌, arith}
use Rattle.std.specs.List.{insert, remove}
use Rattle.std.specs.Prelude.{◌≢◌, slice_get, slice_index_or}
use Rattle.switch_meaning.proofs.Items.{some_injective}

module _ {A : Type 0} where
  -- an item of it is one of those before, or the last
  pub data PushedAt (xs : List A) (y : A) (n : ℕ) (z : A) : Type 0 where
    before : n < length xs → slice_get xs n ≡ Some z → PushedAt xs y n z
    last : n ≡ length xs → z ≡ y → PushedAt xs y n z

  later : (x : A) (xs : List A) (y : A) (n : ℕ) (z : A) → PushedAt xs y n z → PushedAt (x ∷ xs) y (suc n) z
  later x xs y n z (before lt e) = before (omega arith) e
  later x xs y n z (last e f) = last (omega arith) f

  pub pushed-at : (xs : List A) (y : A) (n : ℕ) (z : A) → slice_get (xs ++ y ∷ []) n ≡ Some z → PushedAt xs y n z
  pushed-at [] y zero z e = last refl (sym (some_injective e))
  pushed-at [] y (suc n) z e = cc
  pushed-at (x ∷ xs) y zero z e = before (omega arith) e
  pushed-at (x ∷ xs) y (suc n) z e = later x xs y n z (pushed-at xs y n z e)

  -- what holds of each item and of one more
  pub each-pushed : (P : ℕ → A → Type 0) (xs ys : List A) (y : A) → ys ≡ xs ++ y ∷ []
      → ((n : ℕ) (z : A) → slice_get xs n ≡ Some z → P n z) → P (length xs) y
      → (n : ℕ) (z : A) → slice_get ys n ≡ Some z → P n z
  each-pushed P xs ys y e all one n z at = by (pushed-at xs y n z (sym (ap (λ (l : List A). slice_get l n) e) ∙ at))
    where
      by : PushedAt xs y n z → P n z
      by (before lt f) = all n z f
      by (last f g) = subst (λ (k : ℕ). P k z) (sym f) (subst (λ (w : A). P (length xs) w) (sym g) one)

-- an item of a mapped list, by number
pub index-mapped : {A B : Type 0} (f : A → B) (d : B) (g : Option A → B) (xs : List A) (v : ℕ) → d ≡ g None
    → ((x : A) → slice_get xs v ≡ Some x → f x ≡ g (Some x))
    → slice_index_or (map f xs) v d ≡ g (slice_get xs v)
index-mapped f d g [] v none some = none
index-mapped f d g (x ∷ xs) zero none some = some x refl
index-mapped f d g (x ∷ xs) (suc v) none some = index-mapped f d g xs v none some

module _ {A : Type 0} where
  -- an item put in the place of another
  pub set-long : (xs : List A) (n : ℕ) (y : A) → length (set xs n y) ≡ length xs
  set-long [] n y = refl
  set-long (x ∷ xs) zero y = refl
  set-long (x ∷ xs) (suc n) y = ap suc (set-long xs n y)

  pub set-here : (xs : List A) (n : ℕ) (y : A) → n < length xs → slice_get (set xs n y) n ≡ Some y
  set-here [] n y lt = absurd (omega arith)
  set-here (x ∷ xs) zero y lt = refl
  set-here (x ∷ xs) (suc n) y lt = set-here xs n y (omega arith)

  pub set-there : (xs : List A) (n : ℕ) (y : A) (m : ℕ) → m ≢ n → slice_get (set xs n y) m ≡ slice_get xs m
  set-there [] n y m ne = refl
  set-there (x ∷ xs) zero y zero ne = absurd (ne refl)
  set-there (x ∷ xs) zero y (suc m) ne = refl
  set-there (x ∷ xs) (suc n) y zero ne = refl
  set-there (x ∷ xs) (suc n) y (suc m) ne = set-there xs n y m (λ e. ne (ap suc e))

  -- an item taken out, and another put where it was
  pub put-back : (xs : List A) (n : ℕ) (y : A) → n < length xs → insert (remove xs n) n y ≡ set xs n y
  put-back [] n y lt = absurd (omega arith)
  put-back (x ∷ xs) zero y lt = refl
  put-back (x ∷ xs) (suc n) y lt = ap (λ (z : List A). x ∷ z) (put-back xs n y (omega arith))
