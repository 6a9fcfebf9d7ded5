-- Numbers in rising order: there is one list of them.
use Rattle.std.proofs.Common.{◌≡◌, ◌∙◌, ℕ, suc, ◌+◌, ◌<◌, ◌≤◌, ◌==◌, Bool, true, false, ◌||◌, List, []}
use Rattle.std.proofs.Common.{◌∷◌, cond, refl, sym, ap, ap₂, subst, inl, inr}
use Rattle.std.proofs.Common.{arith, true≢false, eqb-true, eq-eqb, ne_eqb}
use Rattle.std.specs.List.{AllByRecursion, IsDistinct, list_any, slice_index_or}
use Rattle.std.specs.Ordering.{is_lt, nat_cmp}
use Rattle.std.specs.Prelude.{IsPermutation, IsSorted}
use Rattle.std.specs.Cmp.{nat_cmp_is}
use Rattle.std.specs.declared.cmp.Ordering.TheVariants.{Less}
use Rattle.std.proofs.lemmas.Bool.{cases_lt}
use Rattle.std.proofs.lemmas.List.Sorted.{sum_by-IsPermutation}
use Rattle.std.proofs.lemmas.Map.Keys.{IsDistinct-IsPermutation}
use Rattle.match_index.proofs.Counts.{same_any}

-- each number is lower than those behind it
abbrev pub Rises : List ℕ → Type 0
Rises [] = Unit {0}
Rises (x ∷ xs) = AllByRecursion (λ y. x < y) xs × Rises xs

-- the number is among these
abbrev pub is_in : ℕ → List ℕ → Bool
is_in n ks = list_any (λ k. n == k) ks

weaker : (x y : ℕ) (ys : List ℕ) → x < y → AllByRecursion (λ z. y < z) ys → AllByRecursion (λ z. x < z) ys
weaker x y [] less a = tt
weaker x y (z ∷ zs) less a = (omega (arith, a.0), weaker x y zs less a.1)

later_sorted : (x y : ℕ) (ys : List ℕ) → IsSorted nat_cmp (x ∷ y ∷ ys) → IsSorted nat_cmp (y ∷ ys)
later_sorted x y ys s k d low lt =
    let next : suc k + 1 ≡ suc (k + 1) = omega arith in
    subst (λ n. is_lt (nat_cmp (slice_index_or (x ∷ y ∷ ys) n d) (slice_index_or (y ∷ ys) k d)) ≡ false) next
    (s (suc k) d (omega arith) (omega arith))

not_less : (x y : ℕ) → is_lt (nat_cmp y x) ≡ false → x ≤ y
not_less x y e = elim (cases_lt y x) [
  | inl less ↦ absurd (true≢false (ap is_lt (nat_cmp_is y x Less less) ∙ e))
  | inr le ↦ le
]

sorted_rises : (xs : List ℕ) → IsSorted nat_cmp xs → IsDistinct ◌==◌ xs → Rises xs
unfolding IsDistinct
sorted_rises [] s d = tt
sorted_rises (x ∷ []) s d = (tt, tt)
sorted_rises (x ∷ y ∷ ys) s d =
    let rest = sorted_rises (y ∷ ys) (later_sorted x y ys s) d.1 in
    let le : x ≤ y = not_less x y (s 0 x (omega arith) (omega arith)) in
    let other : x ≡ y → ⊥ = λ e. true≢false (sym (eq-eqb x y e) ∙ d.0.0) in
    let less : x < y = omega arith in
    ((less, weaker x y ys less rest.0), rest)

rising_distinct : (xs : List ℕ) → Rises xs → IsDistinct ◌==◌ xs
unfolding IsDistinct
rising_distinct [] r = tt
rising_distinct (x ∷ xs) r = (apart x xs r.0, rising_distinct xs r.1)
  where
    apart : (y : ℕ) (ys : List ℕ) → AllByRecursion (λ z. y < z) ys → AllByRecursion (λ z. (y == z) ≡ false) ys
    apart y [] a = tt
    apart y (z ∷ zs) a = (ne_eqb y z (λ e. omega (arith, a.0, e)), apart y zs a.1)

below_all : (n x : ℕ) (xs : List ℕ) → n ≤ x → AllByRecursion (λ y. x < y) xs → is_in n xs ≡ false
below_all n x [] le a = refl
below_all n x (y ∷ ys) le a = rw (ne_eqb n y (λ e. omega (arith, le, a.0, e))) (below_all n x ys le a.1)

below : (n x : ℕ) (xs : List ℕ) → n < x → AllByRecursion (λ y. x < y) xs → is_in n (x ∷ xs) ≡ false
below n x xs less a = rw (ne_eqb n x (λ e. omega (arith, less, e))) (below_all n x xs (omega (arith, less)) a)

here : (x : ℕ) (xs : List ℕ) → is_in x (x ∷ xs) ≡ true
here x xs = rw (eq-eqb x x refl) refl

heads : (x y : ℕ) (xs ys : List ℕ) → AllByRecursion (λ z. x < z) xs → AllByRecursion (λ z. y < z) ys
    → ((n : ℕ) → is_in n (x ∷ xs) ≡ is_in n (y ∷ ys)) → x ≡ y
heads x y xs ys a b e = elim (cases_lt x y) [
  | inl less ↦ absurd (true≢false (sym (here x xs) ∙ (e x ∙ below x y ys less b)))
  | inr le ↦ elim (cases_lt y x) [
    | inl less ↦ absurd (true≢false (sym (here y ys) ∙ (sym (e y) ∙ below y x xs less a)))
    | inr other ↦ omega (arith, le, other)
  ]
]

tails : (n x y : ℕ) (xs ys : List ℕ) → x ≡ y → AllByRecursion (λ z. x < z) xs → AllByRecursion (λ z. y < z) ys
    → is_in n (x ∷ xs) ≡ is_in n (y ∷ ys) → is_in n xs ≡ is_in n ys
tails n x y xs ys same a b e = by (n == x) refl
  where
    by : (c : Bool) → (n == x) ≡ c → is_in n xs ≡ is_in n ys
    by true t =
        let m = eqb-true n x t in
        below_all n x xs (omega (arith, m)) a ∙ sym (below_all n y ys (omega (arith, m, same)) b)
    by false t =
        let l : is_in n (x ∷ xs) ≡ is_in n xs = ap (λ c. c || is_in n xs) t in
        let u : (n == y) ≡ false = ap (λ z. n == z) (sym same) ∙ t in
        let k : is_in n (y ∷ ys) ≡ is_in n ys = ap (λ c. c || is_in n ys) u in
        sym l ∙ (e ∙ k)

pub one_list : (xs ys : List ℕ) → Rises xs → Rises ys → ((n : ℕ) → is_in n xs ≡ is_in n ys) → xs ≡ ys
one_list [] [] r s e = refl
one_list [] (y ∷ ys) r s e = absurd (true≢false (sym (here y ys) ∙ sym (e y)))
one_list (x ∷ xs) [] r s e = absurd (true≢false (sym (here x xs) ∙ e x))
one_list (x ∷ xs) (y ∷ ys) r s e =
    let same = heads x y xs ys r.0 s.0 e in
    ap₂ (λ z zs. z ∷ zs) same (one_list xs ys r.1 s.1 (λ n. tails n x y xs ys same r.0 s.0 (e n)))

flips : (x y : ℕ) → (x == y) ≡ (y == x)
flips x y = by (x == y) refl
  where
    by : (c : Bool) → (x == y) ≡ c → c ≡ (y == x)
    by true t = sym (eq-eqb y x (sym (eqb-true x y t)))
    by false t = sym (ne_eqb y x (λ e. true≢false (sym (eq-eqb x y (sym e)) ∙ t)))

-- a sorted permutation of rising numbers is their list
pub sorted_is : (xs ys : List ℕ) → Rises xs → IsPermutation xs ys → IsSorted nat_cmp ys → ys ≡ xs
sorted_is xs ys r p s =
    one_list ys xs (sorted_rises ys s (IsDistinct-IsPermutation ◌==◌ flips xs ys p (rising_distinct xs r))) r
    (λ n. same_any ys xs (λ q. sum_by-IsPermutation (λ k. cond (q k) 1 0) xs ys p) (λ k. n == k))
