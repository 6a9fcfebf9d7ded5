-- Lists whose items are changed by their numbers.
use Rattle.std.proofs.Common.{◌≡◌, ◌∙◌, ℕ, zero, suc, ◌+◌, ◌==◌, Bool, true, false, cond, List, [], ◌∷◌, ◌++◌, map}
use Rattle.std.proofs.Common.{filter, Some, arith, refl, ap, ap₂}
use Rattle.std.proofs.lemmas.Bool.{eqb-false, ne_eqb}
use Rattle.std.specs.Prelude.{flat_map, fold, option_map, slice_get}
use Rattle.std.specs.List.{enumerate_from}
use Rattle.machine_meaning.specs.Lists.{changed_at, places}
use Rattle.machine_meaning.proofs.Unchanged.{nothing_after}

-- a fold that no item changes
pub fold_still : {A B : Type 0} (f : A → B → A) (a : A) → ((b : B) → f a b ≡ a) → (bs : List B) → fold f a bs ≡ a
fold_still f a h [] = refl
fold_still f a h (b ∷ bs) = ap (λ x. fold f x bs) (h b) ∙ fold_still f a h bs

pub filter_never : {X : Type 0} (p : X → Bool) → ((x : X) → p x ≡ false) → (xs : List X) → filter p xs ≡ []
filter_never p h [] = refl
filter_never p h (x ∷ xs) = ap₂ (λ b ys. cond b (x ∷ ys) ys) (h x) (filter_never p h xs)

pub flat_none : {X Y : Type 0} (f : X → List Y) → ((x : X) → f x ≡ []) → (xs : List X) → flat_map f xs ≡ []
flat_none f h [] = refl
flat_none {Y = Y} f h (x ∷ xs) = ap₂ (λ (ys zs : List Y). ys ++ zs) (h x) (flat_none f h xs)

-- a list with a place changed to what it was
pub changed_same : {X : Type 0} (n : ℕ) (f : X → X) (xs : List X) → ((x : X) → slice_get xs n ≡ Some x → f x ≡ x)
    → changed_at n f xs ≡ xs
changed_same n f [] h = refl
changed_same zero f (x ∷ xs) h = ap (λ y. y ∷ xs) (h x refl)
changed_same (suc n) f (x ∷ xs) h = ap (λ ys. x ∷ ys) (changed_same n f xs h)

-- what is at the place that was changed, and elsewhere
pub at_changed : {X : Type 0} (n : ℕ) (f : X → X) (xs : List X) → slice_get (changed_at n f xs) n
    ≡ option_map f (slice_get xs n)
at_changed n f [] = refl
at_changed zero f (x ∷ xs) = refl
at_changed (suc n) f (x ∷ xs) = at_changed n f xs

-- a change that a view doesn't see
pub changed_unseen : {X Y : Type 0} (v : X → Y) (f : X → X) → ((x : X) → v (f x) ≡ v x) → (n : ℕ) (xs : List X)
    → map v (changed_at n f xs) ≡ map v xs
changed_unseen v f h n [] = refl
changed_unseen v f h zero (x ∷ xs) = ap (λ y. y ∷ map v xs) (h x)
changed_unseen v f h (suc n) (x ∷ xs) = ap (λ ys. v x ∷ ys) (changed_unseen v f h n xs)

-- the numbers of items, and those of the items behind the first
pub here : (k : ℕ) → k ≡ k + 0
here k = omega arith

pub behind : (k i : ℕ) → (k + 1) + i ≡ k + suc i
behind k i = omega arith

pub from_zero : (i : ℕ) → 0 + i ≡ i
from_zero i = omega arith

-- numbers that differ
after_first : (i : ℕ) → (suc i == 0) ≡ false
after_first i = ne_eqb (suc i) 0 (λ e. omega (arith, e))

before_next : (n : ℕ) → (0 == suc n) ≡ false
before_next n = ne_eqb 0 (suc n) (λ e. omega (arith, e))

next_differ : (i n : ℕ) → (i == n) ≡ false → (suc i == suc n) ≡ false
next_differ i n h = ne_eqb (suc i) (suc n) (λ e. eqb-false i n h (omega (arith, e)))

-- items that stay whatever their numbers are
pub numbered_same : {X : Type 0} (f : ℕ × X → X) (k : ℕ) (xs : List X)
    → ((i : ℕ) (x : X) → slice_get xs i ≡ Some x → f (k + i, x) ≡ x) → map f (enumerate_from k xs) ≡ xs
numbered_same f k [] h = refl
numbered_same {X} f k (x ∷ xs) h =
    ap₂ (λ (y : X) (ys : List X). y ∷ ys) (ap (λ (i : ℕ). f (i, x)) (here k) ∙ h 0 x refl)
    (numbered_same f (k + 1) xs
    (λ i y e. ap (λ (j : ℕ). f (j, y)) (behind k i) ∙ h (suc i) y e))

-- one of them is changed
pub numbered_changed : {X : Type 0} (f : ℕ × X → X) (g : X → X) (k n : ℕ) (xs : List X)
    → ((x : X) → slice_get xs n ≡ Some x → f (k + n, x) ≡ g x)
    → ((i : ℕ) (x : X) → (i == n) ≡ false → f (k + i, x) ≡ x) → map f (enumerate_from k xs) ≡ changed_at n g xs
numbered_changed f g k n [] h o = refl
numbered_changed {X} f g k zero (x ∷ xs) h o =
    ap₂ (λ (y : X) (ys : List X). y ∷ ys) (ap (λ (i : ℕ). f (i, x)) (here k) ∙ h x refl)
    (numbered_same f (k + 1) xs (λ i y e. ap (λ (j : ℕ). f (j, y)) (behind k i) ∙ o (suc i) y (after_first i)))
numbered_changed {X} f g k (suc n) (x ∷ xs) h o =
    ap₂ (λ (y : X) (ys : List X). y ∷ ys) (ap (λ (i : ℕ). f (i, x)) (here k) ∙ o 0 x (before_next n))
    (numbered_changed f g (k + 1) n xs (λ y e. ap (λ (j : ℕ). f (j, y)) (behind k n) ∙ h y e)
    (λ i y e. ap (λ (j : ℕ). f (j, y)) (behind k i) ∙ o (suc i) y (next_differ i n e)))

-- nothing is made of any of them
pub numbered_none : {X Y : Type 0} (f : ℕ × X → List Y) (k : ℕ) (xs : List X)
    → ((i : ℕ) (x : X) → slice_get xs i ≡ Some x → f (k + i, x) ≡ []) → flat_map f (enumerate_from k xs) ≡ []
numbered_none f k [] h = refl
numbered_none {X} {Y} f k (x ∷ xs) h =
    ap₂ (λ (ys zs : List Y). ys ++ zs) (ap (λ (i : ℕ). f (i, x)) (here k) ∙ h 0 x refl)
    (numbered_none f (k + 1) xs (λ i y e. ap (λ (j : ℕ). f (j, y)) (behind k i) ∙ h (suc i) y e))

-- something is made of one of them alone
pub numbered_one : {X Y : Type 0} (f : ℕ × X → List Y) (k n : ℕ) (xs : List X) (x : X) → slice_get xs n ≡ Some x
    → ((i : ℕ) (y : X) → (i == n) ≡ false → f (k + i, y) ≡ []) → flat_map f (enumerate_from k xs) ≡ f (k + n, x)
numbered_one f k n [] x e o = absurd (cc)
numbered_one {X} {Y} f k zero (y ∷ xs) x e o =
    let p : y ≡ x = cc in
    ap₂ (λ (ys zs : List Y). ys ++ zs) (ap₂ (λ (i : ℕ) (z : X). f (i, z)) (here k) p)
    (numbered_none f (k + 1) xs (λ i z t. ap (λ (j : ℕ). f (j, z)) (behind k i) ∙ o (suc i) z (after_first i)))
    ∙ nothing_after (f (k + 0, x))
numbered_one {X} {Y} f k (suc n) (y ∷ xs) x e o =
    ap₂ (λ (ys zs : List Y). ys ++ zs) (ap (λ (i : ℕ). f (i, y)) (here k) ∙ o 0 y (before_next n))
    (numbered_one f (k + 1) n xs x e (λ i z t. ap (λ (j : ℕ). f (j, z)) (behind k i) ∙ o (suc i) z (next_differ i n t))
    ∙ ap (λ (j : ℕ). f (j, x)) (behind k n))

-- a test that only one number passes
abbrev kept : {X : Type 0} (p : ℕ → Bool) (k : ℕ) (xs : List X) → List ℕ
kept p k xs = filter p (map (λ x. x.0) (enumerate_from k xs))

none_kept : {X : Type 0} (p : ℕ → Bool) (k : ℕ) (xs : List X) → ((i : ℕ) → p (k + i) ≡ false) → kept p k xs ≡ []
none_kept p k [] h = refl
none_kept p k (x ∷ xs) h =
    ap₂ (λ b (ys : List ℕ). cond b (k ∷ ys) ys) (ap p (here k) ∙ h 0)
    (none_kept p (k + 1) xs (λ i. ap p (behind k i) ∙ h (suc i)))

one_kept : {X : Type 0} (p : ℕ → Bool) (k n : ℕ) (xs : List X) (x : X) → slice_get xs n ≡ Some x → p (k + n) ≡ true
    → ((i : ℕ) → (i == n) ≡ false → p (k + i) ≡ false) → kept p k xs ≡ (k + n) ∷ []
one_kept p k n [] x e t o = absurd (cc)
one_kept p k zero (y ∷ xs) x e t o =
    ap₂ (λ b (ys : List ℕ). cond b (k ∷ ys) ys) (ap p (here k) ∙ t)
    (none_kept p (k + 1) xs (λ i. ap p (behind k i) ∙ o (suc i) (after_first i)))
    ∙ ap (λ (j : ℕ). j ∷ []) (here k)
one_kept p k (suc n) (y ∷ xs) x e t o =
    ap₂ (λ b (ys : List ℕ). cond b (k ∷ ys) ys) (ap p (here k) ∙ o 0 (before_next n))
    (one_kept p (k + 1) n xs x e (ap p (behind k n) ∙ t) (λ i f. ap p (behind k i) ∙ o (suc i) (next_differ i n f))
    ∙ ap (λ (j : ℕ). j ∷ []) (behind k n))

pub one_place : {X : Type 0} (p : ℕ → Bool) (n : ℕ) (xs : List X) (x : X) → slice_get xs n ≡ Some x → p n ≡ true
    → ((i : ℕ) → (i == n) ≡ false → p i ≡ false) → filter p (places xs) ≡ n ∷ []
one_place p n xs x e t o =
    one_kept p 0 n xs x e (ap p (from_zero n) ∙ t) (λ i f. ap p (from_zero i) ∙ o i f)
    ∙ ap (λ (j : ℕ). j ∷ []) (from_zero n)

pub no_place : {X : Type 0} (p : ℕ → Bool) (xs : List X) → ((i : ℕ) → p i ≡ false) → filter p (places xs) ≡ []
no_place p xs h = none_kept p 0 xs (λ i. ap p (from_zero i) ∙ h i)
