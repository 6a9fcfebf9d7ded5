-- What stands in a list.
use Rattle.std.proofs.Common.{◌≡◌, ℕ, zero, ◌<◌, ◌⊎◌, inl, inr, Bool, true, false, ◌||◌, List, [], ◌∷◌, ◌++◌, length}
use Rattle.std.proofs.Common.{refl, sym, subst, map, arith}
use Rattle.std.specs.Prelude.{filter, if◌then◌else◌, IsPermutation, suc}
use Rattle.std.specs.List.{AllByRecursion, IsDistinct, list_any, Contains, remove, slice_index_or}
use Rattle.std.proofs.lemmas.List.Elements.{recursion_from_All, All-from_recursion}
use Rattle.std.proofs.lemmas.List.Sorted.{All-permutation, IsPermutation-cons, IsPermutation-refl, IsPermutation-remove}
use Rattle.std.proofs.lemmas.List.Sorted.{IsPermutation-sym, IsPermutation-trans}
use Rattle.std.proofs.lemmas.Map.Keys.{IsDistinct-IsPermutation}
use Rattle.switch_meaning.proofs.Items.{all-filter}

-- the item stands in the list
pub data IsIn {A : Type 0} (x : A) : List A → Type 0 where
  here : {xs : List A} → IsIn x (x ∷ xs)
  there : {y : A} {xs : List A} → IsIn x xs → IsIn x (y ∷ xs)

either-true : (a b : Bool) → (a || b) ≡ true → (a ≡ true) ⊎ (b ≡ true)
either-true true b e = inl refl
either-true false b e = inr e

or-right : (a b : Bool) → b ≡ true → (a || b) ≡ true
or-right true b e = refl
or-right false b e = e

or-left : (a b : Bool) → a ≡ true → (a || b) ≡ true
or-left true b e = refl
or-left false b e = cc

module _ {A : Type 0} where
  pub in-all : (P : A → Type 0) {x : A} {xs : List A} → IsIn x xs → AllByRecursion P xs → P x
  in-all P here a = a.0
  in-all P (there i) a = in-all P i a.1

  pub all-in : (P : A → Type 0) (xs : List A) → ((x : A) → IsIn x xs → P x) → AllByRecursion P xs
  all-in P [] f = tt
  all-in P (x ∷ xs) f = (f x here, all-in P xs (λ y i. f y (there i)))

  pub all-permuted : (P : A → Type 0) (xs ys : List A) → IsPermutation xs ys → AllByRecursion P xs → AllByRecursion P ys
  all-permuted P xs ys p a = recursion_from_All P ys (All-permutation P xs ys p (All-from_recursion P xs a))

  -- what stands in a list stands in any order of it
  pub in-permuted : (xs ys : List A) (x : A) → IsPermutation xs ys → IsIn x xs → IsIn x ys
  in-permuted xs ys x p i = in-all (λ (y : A). IsIn y ys) i
      (all-permuted (λ (y : A). IsIn y ys) ys xs (IsPermutation-sym xs ys p)
      (all-in (λ (y : A). IsIn y ys) ys (λ y j. j)))

  pub in-left : {x : A} {xs : List A} (ys : List A) → IsIn x xs → IsIn x (xs ++ ys)
  in-left ys here = here
  in-left ys (there i) = there (in-left ys i)

  pub in-right : {x : A} (xs ys : List A) → IsIn x ys → IsIn x (xs ++ ys)
  in-right [] ys i = i
  in-right (y ∷ xs) ys i = there (in-right xs ys i)

  later : {x : A} (y : A) (xs ys : List A) → IsIn x xs ⊎ IsIn x ys → IsIn x (y ∷ xs) ⊎ IsIn x ys
  later y xs ys (inl i) = inl (there i)
  later y xs ys (inr i) = inr i

  no-items : {B : Type 0} {x : A} → IsIn x [] → B
  no-items i = elim i [ ]

  first-or-later : {x y : A} {xs : List A} → IsIn x (y ∷ xs) → (x ≡ y) ⊎ IsIn x xs
  first-or-later here = inl refl
  first-or-later (there i) = inr i

  -- what stands in a list of one is that one
  pub in-one : {x y : A} → IsIn x (y ∷ []) → x ≡ y
  in-one here = refl
  in-one (there i) = no-items i

  pub in-either : {x : A} (xs ys : List A) → IsIn x (xs ++ ys) → IsIn x xs ⊎ IsIn x ys
  in-either [] ys i = inr i
  in-either {x} (y ∷ xs) ys i = by (λ j. in-either xs ys j) (first-or-later i)
    where
      by : (IsIn x (xs ++ ys) → IsIn x xs ⊎ IsIn x ys) → (x ≡ y) ⊎ IsIn x (xs ++ ys) → IsIn x (y ∷ xs) ⊎ IsIn x ys
      by rest (inl e) = inl (subst (λ z. IsIn z (y ∷ xs)) (sym e) here)
      by rest (inr j) = later y xs ys (rest j)

  if-kept : {x : A} (b : Bool) (y : A) (xs : List A) → IsIn x xs → IsIn x (if b then y ∷ xs else xs)
  if-kept true y xs i = there i
  if-kept false y xs i = i

  first-kept : (b : Bool) (x : A) (xs : List A) → b ≡ true → IsIn x (if b then x ∷ xs else xs)
  first-kept true x xs e = here
  first-kept false x xs e = cc

  -- what passes a test stays
  pub in-filter : (p : A → Bool) {x : A} {xs : List A} → IsIn x xs → p x ≡ true → IsIn x (filter p xs)
  in-filter p (here {xs = xs}) e = first-kept (p _) _ (filter p xs) e
  in-filter p (there {y = y} {xs = xs} i) e = if-kept (p y) y (filter p xs) (in-filter p i e)

  -- what stays passed the test
  pub filter-in : (p : A → Bool) (x : A) (xs : List A) → IsIn x (filter p xs) → IsIn x xs × (p x ≡ true)
  filter-in p x [] i = no-items i
  filter-in p x (y ∷ xs) i = by (p y) refl (λ j. filter-in p x xs j) i
    where
      one : p y ≡ true → (IsIn x (filter p xs) → IsIn x xs × (p x ≡ true)) → (x ≡ y) ⊎ IsIn x (filter p xs)
          → IsIn x (y ∷ xs) × (p x ≡ true)
      one e rest (inl f) = (subst (λ z. IsIn z (y ∷ xs)) (sym f) here, subst (λ z. p z ≡ true) (sym f) e)
      one e rest (inr j) = let r = rest j in (there r.0, r.1)

      by : (b : Bool) → p y ≡ b → (IsIn x (filter p xs) → IsIn x xs × (p x ≡ true))
          → IsIn x (if b then y ∷ filter p xs else filter p xs) → IsIn x (y ∷ xs) × (p x ≡ true)
      by true e rest j = one e rest (first-or-later j)
      by false e rest j = let r = rest j in (there r.0, r.1)

  -- an item that passes a test
  pub record Passes (p : A → Bool) (xs : List A) : Type 0 where
    pub item : A
    pub stands : IsIn item xs
    pub passes : p item ≡ true

  pub any-passes : (p : A → Bool) (xs : List A) → list_any p xs ≡ true → Passes p xs
  any-passes p [] e = cc
  any-passes p (x ∷ xs) e = by (λ f. any-passes p xs f) (either-true (p x) (list_any p xs) e)
    where
      by : (list_any p xs ≡ true → Passes p xs) → (p x ≡ true) ⊎ (list_any p xs ≡ true) → Passes p (x ∷ xs)
      by rest (inl f) = record { item = x; stands = here; passes = f }
      by rest (inr f) = let r = rest f in record { item = r.item; stands = there r.stands; passes = r.passes }

  pub passes-any : (p : A → Bool) {x : A} {xs : List A} → IsIn x xs → p x ≡ true → list_any p xs ≡ true
  passes-any p (here {xs = xs}) e = or-left (p _) (list_any p xs) e
  passes-any p (there {y = y} {xs = xs} i) e = or-right (p y) (list_any p xs) (passes-any p i e)

  pub place : (x : A) (xs : List A) → IsIn x xs → Contains xs x
  place x [] i = no-items i
  place x (y ∷ xs) here = (0, omega arith, refl)
  place x (y ∷ xs) (there i) = let c = place x xs i in let lt : c.0 < length xs = c.1 in (suc c.0, omega arith, c.2)

  at-place : (x : A) (xs : List A) (k : ℕ) → k < length xs → slice_index_or xs k x ≡ x → IsIn x xs
  at-place x [] k lt e = absurd (omega arith)
  at-place x (y ∷ xs) zero lt e = subst (λ (z : A). IsIn x (z ∷ xs)) (sym e) here
  at-place x (y ∷ xs) (suc k) lt e = there (at-place x xs k (omega arith) e)

  pub from-place : (x : A) (xs : List A) → Contains xs x → IsIn x xs
  from-place x xs c = at-place x xs c.0 c.1 c.2

  module _ (E : A → A → Bool) (itself : (x : A) → E x x ≡ true) (flips : (x y : A) → E x y ≡ E y x) where
    apart-here : (x : A) (xs : List A) → IsIn x xs → AllByRecursion (λ (y : A). E x y ≡ false) xs → ⊥
    apart-here x xs i a = let e : E x x ≡ false = in-all (λ (y : A). E x y ≡ false) i a in let t = itself x in cc

    -- of distinct items two that are alike are one
    pub one-alike : {x y : A} {xs : List A} → IsDistinct E xs → IsIn x xs → IsIn y xs → E x y ≡ true → x ≡ y
    unfolding IsDistinct
    one-alike d here here e = refl
    one-alike {x} {y} d here (there j) e = let f : E x y ≡ false = in-all (λ (z : A). E x z ≡ false) j d.0 in cc
    one-alike {x} {y} d (there i) here e = let f : E y x ≡ false = in-all (λ (z : A). E y z ≡ false) i d.0 in let g =
        flips x y in cc
    one-alike d (there i) (there j) e = one-alike d.1 i j e

    -- distinct items that stand in both of two lists are the same, in another order
    pub same-items : (xs ys : List A) → IsDistinct E xs → IsDistinct E ys → ((x : A) → IsIn x xs → IsIn x ys)
        → ((x : A) → IsIn x ys → IsIn x xs) → IsPermutation xs ys
    unfolding IsDistinct
    same-items [] [] d e f g = IsPermutation-refl []
    same-items [] (y ∷ ys) d e f g = no-items (g y here)
    same-items (x ∷ xs) ys d e f g =
        let c = place x ys (f x here) in
        let rest = remove ys c.0 in
        let moved : IsPermutation ys (x ∷ rest) = IsPermutation-remove ys c.0 x c.1 (sym c.2) in
        let apart : IsDistinct E (x ∷ rest) = IsDistinct-IsPermutation E flips ys (x ∷ rest) moved e in
        let down = λ (z : A) (i : IsIn z xs). other z xs rest d.0 i
        (first-or-later (in-permuted ys (x ∷ rest) z moved (f z (there i)))) in
        let up = λ (z : A) (i : IsIn z rest). other z rest xs apart.0 i
        (first-or-later (g z (in-permuted (x ∷ rest) ys z (IsPermutation-sym ys (x ∷ rest) moved) (there i)))) in
        IsPermutation-trans (x ∷ xs) (x ∷ rest) ys
        (IsPermutation-cons x xs rest (same-items xs rest d.1 apart.1 down up))
        (IsPermutation-sym ys (x ∷ rest) moved)
      where
        other : (z : A) (us vs : List A) → AllByRecursion (λ (y : A). E x y ≡ false) us → IsIn z us
            → (z ≡ x) ⊎ IsIn z vs → IsIn z vs
        other z us vs a i (inl same) = absurd (apart-here x us (subst (λ w. IsIn w us) same i) a)
        other z us vs a i (inr j) = j

module _ {A : Type 0} (E : A → A → Bool) where
  one-distinct : (b : Bool) (x : A) (xs : List A) → AllByRecursion (λ y. E x y ≡ false) xs → IsDistinct E xs
      → IsDistinct E (if b then x ∷ xs else xs)
  unfolding IsDistinct
  one-distinct true x xs a d = (a, d)
  one-distinct false x xs a d = d

  -- distinct items stay so where some are left out
  pub distinct-filter : (p : A → Bool) (xs : List A) → IsDistinct E xs → IsDistinct E (filter p xs)
  unfolding IsDistinct
  distinct-filter p [] d = tt
  distinct-filter p (x ∷ xs) d = one-distinct (p x) x (filter p xs) (all-filter (λ y. E x y ≡ false) p xs d.0)
      (distinct-filter p xs d.1)

  -- items that one test tells apart another one does too
  pub distinct-narrower : (F : A → A → Bool) (xs : List A) → IsDistinct E xs
      → ((x y : A) → IsIn x xs → IsIn y xs → E x y ≡ false → F x y ≡ false) → IsDistinct F xs
  unfolding IsDistinct
  distinct-narrower F [] d f = tt
  distinct-narrower F (x ∷ xs) d f = (
    all-in (λ y. F x y ≡ false) xs (λ y i. f x y here (there i) (in-all (λ y. E x y ≡ false) i d.0)),
    distinct-narrower F xs d.1 (λ u v i j. f u v (there i) (there j)),
  )

module _ {A B : Type 0} (f : A → B) where
  pub in-map : {x : A} {xs : List A} → IsIn x xs → IsIn (f x) (map f xs)
  in-map here = here
  in-map (there i) = there (in-map i)

  -- where an item of a mapped list comes from
  pub record Comes (y : B) (xs : List A) : Type 0 where
    pub from : A
    pub stands : IsIn from xs
    pub is : f from ≡ y

  pub map-in : (y : B) (xs : List A) → IsIn y (map f xs) → Comes y xs
  map-in y [] i = no-items i
  map-in y (x ∷ xs) i = by (λ j. map-in y xs j) (first-or-later i)
    where
      by : (IsIn y (map f xs) → Comes y xs) → (y ≡ f x) ⊎ IsIn y (map f xs) → Comes y (x ∷ xs)
      by rest (inl e) = record { from = x; stands = here; is = sym e }
      by rest (inr j) = let r = rest j in record { from = r.from; stands = there r.stands; is = r.is }
