-- Items that pass tests, in lists that are filtered and mapped.
use Rattle.std.proofs.Common.{◌≡◌, ℕ, ◌+◌, ◌<◌, ◌≤◌, ◌==◌, Bool, true, false, not, cond, ◌||◌, ◌&&◌, List, [], ◌∷◌}
use Rattle.std.proofs.Common.{◌++◌, length, map, filter, drop, get_or, add-one, drop-cons, refl, sym, ap, ap₂, ◌∙◌}
use Rattle.std.proofs.Common.{arith, true≢false, eqb-true, eq-eqb}
use Rattle.std.specs.List.{list_any, AllByRecursion}

pub or_false_right : (a : Bool) → (a || false) ≡ a
or_false_right true = refl
or_false_right false = refl

pub or_true_right : (a : Bool) → (a || true) ≡ true
or_true_right true = refl
or_true_right false = refl

pub or_assoc : (a b c : Bool) → (a || (b || c)) ≡ ((a || b) || c)
or_assoc true b c = refl
or_assoc false b c = refl

pub or_swap : (a b c : Bool) → (a || (b || c)) ≡ (b || (a || c))
or_swap true b c = sym (or_true_right b)
or_swap false b c = refl

pub or_left : (a b : Bool) → a ≡ true → (a || b) ≡ true
or_left true b h = refl
or_left false b h = absurd (true≢false (sym h))

pub or_right : (a b : Bool) → b ≡ true → (a || b) ≡ true
or_right true b h = refl
or_right false b h = h

-- equality of numbers goes both ways
pub eqb_flip : (a b : ℕ) → (a == b) ≡ (b == a)
eqb_flip a b = by (a == b) refl (b == a) refl
  where
    by : (x : Bool) → (a == b) ≡ x → (y : Bool) → (b == a) ≡ y → x ≡ y
    by true s true t = refl
    by true s false t = absurd (true≢false (sym (eq-eqb b a (sym (eqb-true a b s))) ∙ t))
    by false s true t = absurd (true≢false (sym (eq-eqb a b (sym (eqb-true b a t))) ∙ s))
    by false s false t = refl

-- tests that agree keep the same items
pub filter_same : {X : Type 0} (p q : X → Bool) → ((x : X) → p x ≡ q x) → (xs : List X) → filter p xs ≡ filter q xs
filter_same p q h [] = refl
filter_same p q h (x ∷ xs) = ap₂ (λ b ys. cond b (x ∷ ys) ys) (h x) (filter_same p q h xs)

pub filter_within : {X : Type 0} (p q : X → Bool) (xs : List X) → AllByRecursion (λ x. p x ≡ q x) xs → filter p xs
    ≡ filter q xs
filter_within p q [] h = refl
filter_within p q (x ∷ xs) h = ap₂ (λ b ys. cond b (x ∷ ys) ys) h.0 (filter_within p q xs h.1)

pub filter_all : {X : Type 0} (p : X → Bool) → ((x : X) → p x ≡ true) → (xs : List X) → filter p xs ≡ xs
filter_all p h [] = refl
filter_all p h (x ∷ xs) = ap₂ (λ b ys. cond b (x ∷ ys) ys) (h x) (filter_all p h xs)

-- one test after the other
pub filter_twice : {X : Type 0} (p q : X → Bool) (xs : List X) → filter q (filter p xs) ≡ filter (λ x. p x && q x) xs
filter_twice p q [] = refl
filter_twice p q (x ∷ xs) = by (p x) (filter_twice p q xs)
  where
    by : (b : Bool) → filter q (filter p xs) ≡ filter (λ y. p y && q y) xs
        → filter q (cond b (x ∷ filter p xs) (filter p xs)) ≡ cond (b && q x) (x ∷ filter (λ y. p y && q y) xs)
        (filter (λ y. p y && q y) xs)
    by true h = ap (λ ys. cond (q x) (x ∷ ys) ys) h
    by false h = h

pub filter_length : {X : Type 0} (p : X → Bool) (xs : List X) → length (filter p xs) ≤ length xs
filter_length p [] = omega arith
filter_length p (x ∷ xs) = by (p x) (filter_length p xs)
  where
    by : (b : Bool) → length (filter p xs) ≤ length xs → length (cond b (x ∷ filter p xs) (filter p xs)) ≤ length
        (x ∷ xs)
    by true h = omega (arith, h)
    by false h = omega (arith, h)

-- a test that doesn't see a change passes the same items
pub filter_map_same : {X : Type 0} (f : X → X) (p : X → Bool) → ((x : X) → p (f x) ≡ p x) → (xs : List X)
    → filter p (map f xs) ≡ map f (filter p xs)
filter_map_same f p h [] = refl
filter_map_same f p h (x ∷ xs) = ap₂ (λ b ys. cond b (f x ∷ ys) ys) (h x) (filter_map_same f p h xs) ∙ by (p x)
  where
    by : (b : Bool) → cond b (f x ∷ map f (filter p xs)) (map f (filter p xs))
        ≡ map f (cond b (x ∷ filter p xs) (filter p xs))
    by true = refl
    by false = refl

pub map_same : {X Y : Type 0} (f g : X → Y) → ((x : X) → f x ≡ g x) → (xs : List X) → map f xs ≡ map g xs
map_same f g h [] = refl
map_same f g h (x ∷ xs) = ap₂ (λ y ys. y ∷ ys) (h x) (map_same f g h xs)

pub map_twice : {X : Type 0} (f g : X → X) (xs : List X) → map g (map f xs) ≡ map (λ x. g (f x)) xs
map_twice f g [] = refl
map_twice f g (x ∷ xs) = ap (λ ys. g (f x) ∷ ys) (map_twice f g xs)

pub map_id : {X : Type 0} (f : X → X) → ((x : X) → f x ≡ x) → (xs : List X) → map f xs ≡ xs
map_id f h [] = refl
map_id f h (x ∷ xs) = ap₂ (λ y ys. y ∷ ys) (h x) (map_id f h xs)

pub any_map_same : {X : Type 0} (f : X → X) (p : X → Bool) → ((x : X) → p (f x) ≡ p x) → (xs : List X)
    → list_any p (map f xs) ≡ list_any p xs
any_map_same f p h [] = refl
any_map_same f p h (x ∷ xs) = ap₂ (λ a b. a || b) (h x) (any_map_same f p h xs)

pub any_filter : {X : Type 0} (p q : X → Bool) (xs : List X) → list_any p (filter q xs) ≡ list_any (λ x. q x && p x) xs
any_filter p q [] = refl
any_filter p q (x ∷ xs) = by (q x) (any_filter p q xs)
  where
    by : (b : Bool) → list_any p (filter q xs) ≡ list_any (λ y. q y && p y) xs
        → list_any p (cond b (x ∷ filter q xs) (filter q xs)) ≡ ((b && p x) || list_any (λ y. q y && p y) xs)
    by true h = ap (λ b. p x || b) h
    by false h = h

-- the items from a place on: the one there, and those behind
pub drop_next : {X : Type 0} (xs : List X) (i : ℕ) (d : X) → i < length xs → drop i xs ≡ get_or xs i d ∷ drop (i + 1) xs
drop_next xs i d lt = rw add-one (drop-cons xs i d lt)
