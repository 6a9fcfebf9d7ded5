-- Facts that hold of each item of a list.
use Rattle.std.proofs.Common.{◌≡◌, List, [], ◌∷◌, ◌++◌, Option, Some, None, refl, ap}
use Rattle.std.specs.Prelude.{flat_map, filter_map, map}
use Rattle.std.specs.List.{AllByRecursion, cons_option}

-- nothing more
pub add-none : {A : Type 0} (xs : List A) → xs ≡ xs ++ []
add-none [] = refl
add-none (x ∷ xs) = ap (λ ys. x ∷ ys) (add-none xs)

module _ {A : Type 0} where
  pub all-map : (P Q : A → Type 0) (xs : List A) → ((x : A) → P x → Q x) → AllByRecursion P xs → AllByRecursion Q xs
  all-map P Q [] f p = tt
  all-map P Q (x ∷ xs) f p = (f x p.0, all-map P Q xs f p.1)

  pub all-each : (P : A → Type 0) (xs : List A) → ((x : A) → P x) → AllByRecursion P xs
  all-each P [] f = tt
  all-each P (x ∷ xs) f = (f x, all-each P xs f)

  pub all-zip : (P Q : A → Type 0) (xs : List A) → AllByRecursion P xs → AllByRecursion Q xs
      → AllByRecursion (λ x. P x × Q x) xs
  all-zip P Q [] p q = tt
  all-zip P Q (x ∷ xs) p q = ((p.0, q.0), all-zip P Q xs p.1 q.1)

  pub all-append : (P : A → Type 0) (xs ys : List A) → AllByRecursion P xs → AllByRecursion P ys
      → AllByRecursion P (xs ++ ys)
  all-append P [] ys p q = q
  all-append P (x ∷ xs) ys p q = (p.0, all-append P xs ys p.1 q)

  pub all-cons_option : (P : A → Type 0) (o : Option A) (xs : List A) → ((x : A) → o ≡ Some x → P x)
      → AllByRecursion P xs → AllByRecursion P (cons_option o xs)
  all-cons_option P None xs up p = p
  all-cons_option P (Some x) xs up p = (up x refl, p)

module _ {A B : Type 0} where
  pub all-mapped : (P : A → Type 0) (Q : B → Type 0) (g : A → B) (xs : List A) → ((x : A) → P x → Q (g x))
      → AllByRecursion P xs → AllByRecursion Q (map g xs)
  all-mapped P Q g [] up p = tt
  all-mapped P Q g (x ∷ xs) up p = (up x p.0, all-mapped P Q g xs up p.1)

  pub all-flat_map : (P : A → Type 0) (Q : B → Type 0) (g : A → List B) (xs : List A)
      → ((x : A) → P x → AllByRecursion Q (g x)) → AllByRecursion P xs → AllByRecursion Q (flat_map g xs)
  all-flat_map P Q g [] up p = tt
  all-flat_map P Q g (x ∷ xs) up p = all-append Q (g x) (flat_map g xs) (up x p.0) (all-flat_map P Q g xs up p.1)

  pub all-filter_map : (P : A → Type 0) (Q : B → Type 0) (f : A → Option B) (xs : List A)
      → ((x : A) (y : B) → f x ≡ Some y → P x → Q y) → AllByRecursion P xs → AllByRecursion Q (filter_map f xs)
  all-filter_map P Q f [] up p = tt
  all-filter_map P Q f (x ∷ xs) up p = all-cons_option Q (f x) (filter_map f xs) (λ y e. up x y e p.0)
      (all-filter_map P Q f xs up p.1)
