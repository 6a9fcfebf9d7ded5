-- Items of lists by their places, and lists that are changed at one place.
use Rattle.std.proofs.Common.{◌≡◌, ℕ, zero, suc, ◌<◌, ◌≤◌, List, [], ◌∷◌, length, get_or, set, map, slice_get, Some}
use Rattle.std.proofs.Common.{None, refl, ap, subst, arith}
use Rattle.std.specs.List.{AllByRecursion}
use Rattle.machine_meaning.specs.Lists.{changed_at}

-- a new item at a place is the change there
pub map-set_changed : {A B : Type 0} (f : A → B) (g : B → B) (xs : List A) (n : ℕ) (y d : A) → n < length xs
    → f y ≡ g (f (get_or xs n d)) → map f (set xs n y) ≡ changed_at n g (map f xs)
map-set_changed f g [] n y d h e = absurd (omega arith)
map-set_changed f g (x ∷ xs) zero y d h e = ap (λ z. z ∷ map f xs) e
map-set_changed f g (x ∷ xs) (suc n) y d h e = ap (λ zs. f x ∷ zs) (map-set_changed f g xs n y d (omega arith) e)

pub set_changed : {A : Type 0} (g : A → A) (xs : List A) (n : ℕ) (y d : A) → n < length xs → y ≡ g (get_or xs n d)
    → set xs n y ≡ changed_at n g xs
set_changed g [] n y d h e = absurd (omega arith)
set_changed g (x ∷ xs) zero y d h e = ap (λ z. z ∷ xs) e
set_changed g (x ∷ xs) (suc n) y d h e = ap (λ zs. x ∷ zs) (set_changed g xs n y d (omega arith) e)

-- past the end nothing changes
pub changed_past : {A : Type 0} (g : A → A) (xs : List A) (n : ℕ) → length xs ≤ n → changed_at n g xs ≡ xs
changed_past g [] n h = refl
changed_past g (x ∷ xs) zero h = absurd (omega arith)
changed_past g (x ∷ xs) (suc n) h = ap (λ zs. x ∷ zs) (changed_past g xs n (omega arith))

-- what is looked up among what was made of items
pub slice_get-map : {A B : Type 0} (f : A → B) (xs : List A) (n : ℕ) (d : A) → n < length xs
    → slice_get (map f xs) n ≡ Some (f (get_or xs n d))
slice_get-map f [] n d h = absurd (omega arith)
slice_get-map f (x ∷ xs) zero d h = refl
slice_get-map f (x ∷ xs) (suc n) d h = slice_get-map f xs n d (omega arith)

pub slice_get-past : {A B : Type 0} (f : A → B) (xs : List A) (n : ℕ) → length xs ≤ n → slice_get (map f xs) n ≡ None
slice_get-past f [] n h = refl
slice_get-past f (x ∷ xs) zero h = absurd (omega arith)
slice_get-past f (x ∷ xs) (suc n) h = slice_get-past f xs n (omega arith)

pub slice_get-there : {A : Type 0} (xs : List A) (n : ℕ) (d : A) → n < length xs → slice_get xs n ≡ Some (get_or xs n d)
slice_get-there [] n d h = absurd (omega arith)
slice_get-there (x ∷ xs) zero d h = refl
slice_get-there (x ∷ xs) (suc n) d h = slice_get-there xs n d (omega arith)

-- what stands at a place doesn't hang on what would be said past the end
pub get_or_any : {A : Type 0} (xs : List A) (n : ℕ) (d e : A) → n < length xs → get_or xs n d ≡ get_or xs n e
get_or_any [] n d e h = absurd (omega arith)
get_or_any (x ∷ xs) zero d e h = refl
get_or_any (x ∷ xs) (suc n) d e h = get_or_any xs n d e (omega arith)

-- what holds of each item holds of that at a place
pub at_place : {X : Type 0} (P : X → Type 0) (xs : List X) (n : ℕ) (x : X) → AllByRecursion P xs
    → slice_get xs n ≡ Some x → P x
at_place P [] n x h e = absurd (cc)
at_place P (y ∷ ys) zero x h e = let p : y ≡ x = cc in subst P p h.0
at_place P (y ∷ ys) (suc n) x h e = at_place P ys n x h.1 e

-- an item of a list that is mapped was made of one at its place
pub record IsMadeOf {X Y : Type 0} (f : X → Y) (xs : List X) (n : ℕ) (y : Y) : Type 0 where
  pub item : X
  pub at : slice_get xs n ≡ Some item
  pub is : f item ≡ y

pub made_of : {X Y : Type 0} (f : X → Y) (xs : List X) (n : ℕ) (y : Y) → slice_get (map f xs) n ≡ Some y
    → IsMadeOf f xs n y
made_of f [] n y e = absurd (cc)
made_of f (x ∷ xs) zero y e = record { item = x; at = refl; is = cc }
made_of f (x ∷ xs) (suc n) y e =
    let r = made_of f xs n y e in record { item = r.item; at = r.at; is = r.is }

-- a new item that is seen as the old one was
pub map-set_same : {A B : Type 0} (f : A → B) (xs : List A) (n : ℕ) (y d : A) → n < length xs → f y ≡ f (get_or xs n d)
    → map f (set xs n y) ≡ map f xs
map-set_same f [] n y d h e = absurd (omega arith)
map-set_same f (x ∷ xs) zero y d h e = ap (λ z. z ∷ map f xs) e
map-set_same f (x ∷ xs) (suc n) y d h e = ap (λ zs. f x ∷ zs) (map-set_same f xs n y d (omega arith) e)
