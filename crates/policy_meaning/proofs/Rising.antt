-- Lists that rise strictly in a total order: one list of some items does.
use Rattle.std.proofs.Common.{◌≡◌, suc, ◌+◌, ◌⊎◌, inl, inr, false, List, [], ◌∷◌, refl, ap, ◌∙◌, sym, subst, arith}
use Rattle.std.specs.Cmp.{IsTotalOrder}
use Rattle.std.specs.List.{AllByRecursion, IsDistinct, slice_index_or}
use Rattle.std.specs.Ordering.{is_eq, is_lt, ordering_reverse}
use Rattle.std.specs.Prelude.{IsPermutation, IsSorted}
use Rattle.std.specs.declared.cmp.Ordering.{Ordering}
use Rattle.std.specs.declared.cmp.Ordering.TheVariants.{Equal, Greater, Less}
use Rattle.std.proofs.lemmas.List.Elements.{All-from_recursion, recursion_from_All}
use Rattle.std.proofs.lemmas.List.Sorted.{All-permutation}
use Rattle.std.proofs.lemmas.Map.Keys.{IsDistinct-IsPermutation}
use Rattle.policy_meaning.specs.LeafFact.{EachPair}
use Rattle.policy_meaning.proofs.Lists.{all-map, all-zip}

-- what holds of each item of a list does so in any order
pub all-permuted : {A : Type 0} (xs ys : List A) → IsPermutation xs ys → (P : A → Type 0) → AllByRecursion P xs
    → AllByRecursion P ys
all-permuted xs ys p P a = recursion_from_All P ys (All-permutation P xs ys p (All-from_recursion P xs a))

module _ {A : Type 0} (cmp : A → A → Ordering) (total : IsTotalOrder cmp) where
  abbrev pub Lower : A → A → Type 0
  Lower x y = cmp x y ≡ Less

  abbrev pub Differs : A → A → Type 0
  Differs x y = cmp x y ≡ Equal → ⊥

  turned : (x y : A) (r : Ordering) → cmp y x ≡ r → is_lt r ≡ false → (r ≡ Equal → ⊥) → Lower x y
  turned x y Less e f n = cc
  turned x y Equal e f n = absurd (n refl)
  turned x y Greater e f n = total.antisymm x y ∙ ap ordering_reverse e

  -- of items of which none comes before the one before it, and that differ
  pub above : (x y : A) → is_lt (cmp y x) ≡ false → Differs x y → Lower x y
  above x y f n = turned x y (cmp y x) refl f (λ e. n (total.antisymm x y ∙ ap ordering_reverse e))

  later-sorted : (x y : A) (ys : List A) → IsSorted cmp (x ∷ y ∷ ys) → IsSorted cmp (y ∷ ys)
  later-sorted x y ys s k d low lt =
      let next : suc k + 1 ≡ suc (k + 1) = omega arith in
      subst (λ n. is_lt (cmp (slice_index_or (x ∷ y ∷ ys) n d) (slice_index_or (y ∷ ys) k d)) ≡ false) next
      (s (suc k) d (omega arith) (omega arith))

  pub from-sorted : (xs : List A) → IsSorted cmp xs → EachPair Differs xs → EachPair Lower xs
  from-sorted [] s d = tt
  from-sorted (x ∷ []) s d = (tt, tt)
  from-sorted (x ∷ y ∷ ys) s d =
      let rest = from-sorted (y ∷ ys) (later-sorted x y ys s) d.1 in
      let low : Lower x y = above x y (s 0 x (omega arith) (omega arith)) d.0.0 in
      ((low, all-map (Lower y) (Lower x) ys (λ z up. total.trans x y z low up) rest.0), rest)

  -- pairs in another order
  flipped : (r : Ordering) → is_eq r ≡ is_eq (ordering_reverse r)
  flipped Less = refl
  flipped Equal = refl
  flipped Greater = refl

  not-equal : (r : Ordering) → (r ≡ Equal → ⊥) → is_eq r ≡ false
  not-equal Less n = refl
  not-equal Equal n = absurd (n refl)
  not-equal Greater n = refl

  equal-not : (r : Ordering) → is_eq r ≡ false → r ≡ Equal → ⊥
  equal-not Less f e = cc
  equal-not Equal f e = cc
  equal-not Greater f e = cc

  distinct-from : (xs : List A) → EachPair Differs xs → IsDistinct (λ x y. is_eq (cmp x y)) xs
  unfolding IsDistinct
  distinct-from [] p = tt
  distinct-from (x ∷ xs) p =
      (all-map (Differs x) (λ y. is_eq (cmp x y) ≡ false) xs (λ y n. not-equal (cmp x y) n) p.0, distinct-from xs p.1)

  from-distinct : (xs : List A) → IsDistinct (λ x y. is_eq (cmp x y)) xs → EachPair Differs xs
  unfolding IsDistinct
  from-distinct [] p = tt
  from-distinct (x ∷ xs) p =
      (all-map (λ y. is_eq (cmp x y) ≡ false) (Differs x) xs (λ y f. equal-not (cmp x y) f) p.0, from-distinct xs p.1)

  pub differs-permuted : (xs ys : List A) → IsPermutation xs ys → EachPair Differs xs → EachPair Differs ys
  differs-permuted xs ys p d =
      from-distinct ys (IsDistinct-IsPermutation (λ x y. is_eq (cmp x y))
      (λ x y. ap is_eq (total.antisymm x y) ∙ sym (flipped (cmp y x))) xs ys p (distinct-from xs d))

  -- what each item of one list has, each of the other has
  abbrev pub Same : List A → List A → Type 1
  Same xs ys = (P : A → Type 0) → AllByRecursion P xs → AllByRecursion P ys

  not-both : (x y : A) → Lower x y → Lower y x → ⊥
  not-both x y p q = let r : Less ≡ ordering_reverse Less = sym p ∙ (total.antisymm x y ∙ ap ordering_reverse q) in cc

  not-itself : (x : A) → Lower x x → ⊥
  not-itself x p = not-both x x p p

  one : (x y : A) → ((y ≡ x) ⊎ Lower x y) → ((x ≡ y) ⊎ Lower y x) → x ≡ y
  one x y (inl e) q = sym e
  one x y (inr p) (inl e) = e
  one x y (inr p) (inr q) = absurd (not-both x y p q)

  from-first : (x : A) (xs : List A) → AllByRecursion (Lower x) xs → AllByRecursion (λ z. (z ≡ x) ⊎ Lower x z) (x ∷ xs)
  from-first x xs up = (inl refl, all-map (Lower x) (λ z. (z ≡ x) ⊎ Lower x z) xs (λ z p. inr p) up)

  drop-first : (P : A → Type 0) (x z : A) → Lower x z → ((z ≡ x) ⊎ P z) → P z
  drop-first P x z up (inl e) = absurd (not-itself x (subst (λ w. Lower x w) e up))
  drop-first P x z up (inr p) = p

  rest-same : (x : A) (xs ys : List A) → AllByRecursion (Lower x) ys → Same (x ∷ xs) (x ∷ ys) → Same xs ys
  rest-same x xs ys up f P a =
      let b = f (λ z. (z ≡ x) ⊎ P z) (inl refl, all-map P (λ z. (z ≡ x) ⊎ P z) xs (λ z p. inr p) a) in
      all-map (λ z. Lower x z × ((z ≡ x) ⊎ P z)) P ys (λ z q. drop-first P x z q.0 q.1)
      (all-zip (Lower x) (λ z. (z ≡ x) ⊎ P z) ys up b.1)

  -- two rising lists of the same items are one
  pub unique : (xs ys : List A) → EachPair Lower xs → EachPair Lower ys → Same xs ys → Same ys xs → xs ≡ ys
  unique [] [] p q f g = refl
  unique [] (y ∷ ys) p q f g = absurd (f (λ z. ⊥) tt).0
  unique (x ∷ xs) [] p q f g = absurd (g (λ z. ⊥) tt).0
  unique (x ∷ xs) (y ∷ ys) p q f g =
      let same : x ≡ y = one x y (f (λ z. (z ≡ x) ⊎ Lower x z) (from-first x xs p.0)).0
      (g (λ z. (z ≡ y) ⊎ Lower y z) (from-first y ys q.0)).0 in
      let up : AllByRecursion (Lower x) ys = subst (λ w. AllByRecursion (Lower w) ys) (sym same) q.0 in
      let f' : Same (x ∷ xs) (x ∷ ys) = λ P a. let b = f P a in (a.0, b.1) in
      let g' : Same (x ∷ ys) (x ∷ xs) = λ P a. let b = g P (subst P same a.0, a.1) in (a.0, b.1) in
      let tails : xs ≡ ys = unique xs ys p.1 q.1 (rest-same x xs ys up f') (rest-same x ys xs p.0 g') in
      λ i. same i ∷ tails i
