-- How many items of a list pass a test.
use Rattle.std.proofs.Common.{◌≡◌, ◌∙◌, ℕ, ◌+◌, ◌≤◌, Bool, true, false, true≢false, not, ◌||◌, List, [], ◌∷◌, ◌++◌}
use Rattle.std.proofs.Common.{map, filter, cond, nat_lt, arith, refl, sym, ap, lt-ltb}
use Rattle.std.specs.List.{AllByRecursion, IsDistinct, list_any}

-- what a test counts
abbrev pub one : Bool → ℕ
one true = 1
one false = 0

module _ {X : Type 0} where
  abbrev pub tally : (X → Bool) → List X → ℕ
  tally p [] = 0
  tally p (x ∷ xs) = one (p x) + tally p xs

  pub tally_both : (p : X → Bool) (xs ys : List X) → tally p (xs ++ ys) ≡ tally p xs + tally p ys
  tally_both p [] ys = omega arith
  tally_both p (x ∷ xs) ys = let h = tally_both p xs ys in omega (arith, h)

  pub tally_alike : (p q : X → Bool) → ((x : X) → p x ≡ q x) → (xs : List X) → tally p xs ≡ tally q xs
  tally_alike p q h xs = ap (λ (r : X → Bool). tally r xs) (λ i x. h x i)

  -- items that pass, and those that don't
  pub tally_parts : (p q : X → Bool) (xs : List X)
      → tally p (filter q xs) + tally p (filter (λ x. not (q x)) xs) ≡ tally p xs
  tally_parts p q [] = refl
  tally_parts p q (x ∷ xs) = by (q x) (tally_parts p q xs)
    where
      by : (b : Bool) → tally p (filter q xs) + tally p (filter (λ x. not (q x)) xs) ≡ tally p xs
          → tally p (cond b (x ∷ filter q xs) (filter q xs))
          + tally p (cond (not b) (x ∷ filter (λ x. not (q x)) xs) (filter (λ x. not (q x)) xs))
          ≡ one (p x) + tally p xs
      by true h = omega (arith, h)
      by false h = omega (arith, h)

  pub tally_fewer : (p q : X → Bool) (xs : List X) → tally p (filter q xs) ≤ tally p xs
  tally_fewer p q xs = let h = tally_parts p q xs in omega (arith, h)

  -- none passes
  pub none_tallied : (p : X → Bool) → ((x : X) → p x ≡ false) → (xs : List X) → tally p xs ≡ 0
  none_tallied p h [] = refl
  none_tallied p h (x ∷ xs) = let r = none_tallied p h xs in let c = ap one (h x) in omega (arith, r, c)

  pub all_tallied : (p : X → Bool) (xs : List X) → AllByRecursion (λ x. p x ≡ false) xs → tally p xs ≡ 0
  all_tallied p [] h = refl
  all_tallied p (x ∷ xs) h =
      let r = all_tallied p xs h.1 in
      let c = ap one h.0 in omega (arith, r, c)

  pub tallied_none : (p : X → Bool) (xs : List X) → tally p xs ≡ 0 → AllByRecursion (λ x. p x ≡ false) xs
  tallied_none p [] e = tt
  tallied_none p (x ∷ xs) e = by (p x) refl e (tallied_none p xs)
    where
      by : (b : Bool) → p x ≡ b → one b + tally p xs ≡ 0
          → (tally p xs ≡ 0 → AllByRecursion (λ x. p x ≡ false) xs)
          → (p x ≡ false) × AllByRecursion (λ x. p x ≡ false) xs
      by true f z r = absurd (omega (arith, z))
      by false f z r = (f, r (omega (arith, z)))

  -- some passes
  pub tallied_any : (p : X → Bool) (xs : List X) → list_any p xs ≡ nat_lt 0 (tally p xs)
  tallied_any p [] = refl
  tallied_any p (x ∷ xs) = by (p x) (tallied_any p xs)
    where
      by : (b : Bool) → list_any p xs ≡ nat_lt 0 (tally p xs) → (b || list_any p xs) ≡ nat_lt 0 (one b + tally p xs)
      by true h = sym (lt-ltb 0 (1 + tally p xs) (omega arith))
      by false h = h ∙ ap (nat_lt 0) (let z : tally p xs ≡ 0 + tally p xs = omega arith in z)

  -- a test that is passed by fewer
  pub tally_less : (p q : X → Bool) → ((x : X) → p x ≡ true → q x ≡ true) → (xs : List X) → tally p xs ≤ tally q xs
  tally_less p q h [] = omega arith
  tally_less p q h (x ∷ xs) = by (p x) refl (q x) refl (tally_less p q h xs)
    where
      by : (a : Bool) → p x ≡ a → (b : Bool) → q x ≡ b → tally p xs ≤ tally q xs
          → one a + tally p xs ≤ one b + tally q xs
      by true e true f r = omega (arith, r)
      by true e false f r = absurd (true≢false (sym (h x e) ∙ f))
      by false e true f r = omega (arith, r)
      by false e false f r = omega (arith, r)

module _ {X Y : Type 0} where
  pub tally_map : (p : Y → Bool) (f : X → Y) (xs : List X) → tally p (map f xs) ≡ tally (λ x. p (f x)) xs
  tally_map p f [] = refl
  tally_map p f (x ∷ xs) = ap (λ n. one (p (f x)) + n) (tally_map p f xs)

-- items that differ
module _ {X : Type 0} (e : X → X → Bool) where
  pub distinct_tallied : ((q x y : X) → e q x ≡ true → e q y ≡ true → e x y ≡ true) → (xs : List X) → IsDistinct e xs
      → (q : X) → tally (e q) xs ≤ 1
  unfolding IsDistinct
  distinct_tallied joins [] d q = omega arith
  distinct_tallied joins (x ∷ xs) d q = by (e q x) refl (distinct_tallied joins xs d.1 q)
    where
      others : e q x ≡ true → (ys : List X) → AllByRecursion (λ y. e x y ≡ false) ys
          → AllByRecursion (λ y. e q y ≡ false) ys
      others t [] a = tt
      others t (y ∷ ys) a = (one (e q y) refl, others t ys a.1)
        where
          one : (b : Bool) → e q y ≡ b → e q y ≡ false
          one true f = absurd (true≢false (sym (joins q x y t f) ∙ a.0))
          one false f = f

      by : (b : Bool) → e q x ≡ b → tally (e q) xs ≤ 1 → one b + tally (e q) xs ≤ 1
      by true t r = let z = all_tallied (e q) xs (others t xs d.0) in omega (arith, z)
      by false t r = omega (arith, r)

  pub tallied_distinct : ((x : X) → e x x ≡ true) → (xs : List X) → ((q : X) → tally (e q) xs ≤ 1) → IsDistinct e xs
  unfolding IsDistinct
  tallied_distinct itself [] h = tt
  tallied_distinct itself (x ∷ xs) h = (
    tallied_none (e x) xs (let c = ap one (itself x) in let few = h x in omega (arith, c, few)),
    tallied_distinct itself xs (λ q. let few = h q in omega (arith, few)),
  )
