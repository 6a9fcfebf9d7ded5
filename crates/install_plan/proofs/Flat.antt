-- Lists of lists, filtered and mapped.
use Rattle.std.proofs.Common.{◌≡◌, Bool, true, false, List, [], ◌∷◌, ◌++◌, refl, ap, ◌∙◌, map}
use Rattle.std.specs.Prelude.{Option, Some, None, filter, flat_map, option_map, option_to_list, if◌then◌else◌}

module _ {A B : Type 0} where
  pub map-append : (f : A → B) (xs ys : List A) → map f (xs ++ ys) ≡ map f xs ++ map f ys
  map-append f [] ys = refl
  map-append f (x ∷ xs) ys = ap (λ zs. f x ∷ zs) (map-append f xs ys)

  pub map-option : (f : A → B) (o : Option A) → map f (option_to_list o) ≡ option_to_list (option_map f o)
  map-option f None = refl
  map-option f (Some x) = refl

pub filter-append : {A : Type 0} (q : A → Bool) (xs ys : List A) → filter q (xs ++ ys) ≡ filter q xs ++ filter q ys
filter-append q [] ys = refl
filter-append q (x ∷ xs) ys = by (q x) (filter-append q xs ys)
  where
    by : (b : Bool) → filter q (xs ++ ys) ≡ filter q xs ++ filter q ys
        → (if b then x ∷ filter q (xs ++ ys) else filter q (xs ++ ys))
        ≡ (if b then x ∷ filter q xs else filter q xs) ++ filter q ys
    by true e = ap (λ zs. x ∷ zs) e
    by false e = e

module _ {X A : Type 0} (g : X → List A) where
  pub map-flat : {B : Type 0} (f : A → B) (xs : List X) → map f (flat_map g xs) ≡ flat_map (λ x. map f (g x)) xs
  map-flat f [] = refl
  map-flat f (x ∷ xs) = map-append f (g x) (flat_map g xs) ∙ ap (λ zs. map f (g x) ++ zs) (map-flat f xs)

  pub filter-flat : (q : A → Bool) (xs : List X) → filter q (flat_map g xs) ≡ flat_map (λ x. filter q (g x)) xs
  filter-flat q [] = refl
  filter-flat q (x ∷ xs) = filter-append q (g x) (flat_map g xs) ∙ ap (λ zs. filter q (g x) ++ zs) (filter-flat q xs)

  -- the same over a list of which only a part is looked at
  pub flat-mapped : {Y : Type 0} (h : Y → X) (ys : List Y) → flat_map g (map h ys) ≡ flat_map (λ y. g (h y)) ys
  flat-mapped h [] = refl
  flat-mapped h (y ∷ ys) = ap (λ zs. g (h y) ++ zs) (flat-mapped h ys)
