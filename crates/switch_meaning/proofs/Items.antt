-- Items of lists and options, and tests of them.
use Rattle.std.proofs.Common.{◌≡◌, ◌≢◌, ℕ, Bool, true, false, ◌&&◌, ◌||◌, Option, Some, None, List, [], ◌∷◌, refl, ap}
use Rattle.std.proofs.Common.{◌∙◌, eqb-true}
use Rattle.std.specs.Prelude.{◌==◌, if◌then◌else◌, filter, filter_map, map, option_map}
use Rattle.std.specs.List.{AllByRecursion, cons_option, list_any}

pub some_injective : {A : Type 0} {x y : A} → Some x ≡ Some y → x ≡ y
some_injective e = cc

pub split_and : (a b : Bool) → (a && b) ≡ true → (a ≡ true) × (b ≡ true)
split_and true b e = (refl, e)
split_and false b e = cc

pub join_and : (a b : Bool) → a ≡ true → b ≡ true → (a && b) ≡ true
join_and a b e f = rw (e, f)

-- what is known of a value that was mapped
pub record Mapped {A B : Type 0} (f : A → B) (o : Option A) (y : B) : Type 0 where
  pub from : A
  pub was : o ≡ Some from
  pub is : f from ≡ y

pub mapped : {A B : Type 0} (f : A → B) (o : Option A) (y : B) → option_map f o ≡ Some y → Mapped f o y
mapped f None y e = cc
mapped f (Some x) y e = record { from = x; was = refl; is = some_injective e }

-- a test that can't pass fails
pub fails : (b : Bool) → (b ≡ true → ⊥) → b ≡ false
fails true f = absurd (f refl)
fails false f = refl

-- different numbers, as a test
pub apart : (a b : ℕ) → a ≢ b → (a == b) ≡ false
apart a b n = fails (a == b) (λ e. n (eqb-true a b e))

pub all-map : {A : Type 0} (P Q : A → Type 0) (xs : List A) → ((x : A) → P x → Q x) → AllByRecursion P xs
    → AllByRecursion Q xs
all-map P Q [] f a = tt
all-map P Q (x ∷ xs) f a = (f x a.0, all-map P Q xs f a.1)

-- what holds of each item after a map
pub all-in-map : {A B : Type 0} (P : B → Type 0) (f : A → B) (xs : List A) → AllByRecursion (λ (x : A). P (f x)) xs
    → AllByRecursion P (map f xs)
all-in-map P f [] a = tt
all-in-map P f (x ∷ xs) a = (a.0, all-in-map P f xs a.1)

one_more : {A : Type 0} (P : A → Type 0) (b : Bool) (x : A) (xs : List A) → P x → AllByRecursion P xs
    → AllByRecursion P (if b then x ∷ xs else xs)
one_more P true x xs p a = (p, a)
one_more P false x xs p a = a

pub all-filter : {A : Type 0} (P : A → Type 0) (p : A → Bool) (xs : List A) → AllByRecursion P xs
    → AllByRecursion P (filter p xs)
all-filter P p [] a = tt
all-filter P p (x ∷ xs) a = one_more P (p x) x (filter p xs) a.0 (all-filter P p xs a.1)

-- maps that agree on each item
pub filter_map-agree : {A B : Type 0} (f g : A → Option B) (xs : List A) → AllByRecursion (λ x. f x ≡ g x) xs
    → filter_map f xs ≡ filter_map g xs
filter_map-agree f g [] a = refl
filter_map-agree f g (x ∷ xs) a = λ i. cons_option (a.0 i) (filter_map-agree f g xs a.1 i)

kept_or_not : {A B : Type 0} (f : A → Option B) (b : Bool) (x : A) (xs : List A)
    → filter_map f (if b then x ∷ xs else xs) ≡ cons_option (if b then f x else None) (filter_map f xs)
kept_or_not f true x xs = refl
kept_or_not f false x xs = refl

-- what is left out gives nothing
pub filter_map-filter : {A B : Type 0} (f : A → Option B) (p : A → Bool) (xs : List A)
    → filter_map f (filter p xs) ≡ filter_map (λ x. if p x then f x else None) xs
filter_map-filter f p [] = refl
filter_map-filter f p (x ∷ xs) = kept_or_not f (p x) x (filter p xs)
    ∙ ap (λ ys. cons_option (if p x then f x else None) ys) (filter_map-filter f p xs)

none_left : {A : Type 0} (b : Bool) (x : A) (xs ys : List A) → b ≡ true → xs ≡ ys → (if b then x ∷ xs else xs) ≡ x ∷ ys
none_left true x xs ys e f = ap (λ zs. x ∷ zs) f
none_left false x xs ys e f = cc

-- a filter that lets each item through
pub filter-all : {A : Type 0} (p : A → Bool) (xs : List A) → ((x : A) → p x ≡ true) → filter p xs ≡ xs
filter-all p [] f = refl
filter-all p (x ∷ xs) f = none_left (p x) x (filter p xs) xs (f x) (filter-all p xs f)

still_any : {A : Type 0} (q : A → Bool) (b : Bool) (x : A) (xs : List A) (any : Bool) → (b ≡ false → q x ≡ false)
    → list_any q xs ≡ any → list_any q (if b then x ∷ xs else xs) ≡ (q x || any)
still_any q true x xs any n e = ap (λ z. q x || z) e
still_any q false x xs any n e = rw (n refl) e

-- what is left out passes no test
pub list_any-filter : {A : Type 0} (q p : A → Bool) (xs : List A) → ((x : A) → p x ≡ false → q x ≡ false)
    → list_any q (filter p xs) ≡ list_any q xs
list_any-filter q p [] n = refl
list_any-filter q p (x ∷ xs) n = still_any q (p x) x (filter p xs) (list_any q xs) (n x) (list_any-filter q p xs n)
