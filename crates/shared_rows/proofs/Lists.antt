-- Lists, their beginnings and ends, and tests of each or of each pair of their items.
use Rattle.std.proofs.Common.{◌≡◌, ◌∙◌, ◌<◌, ◌≤◌, ℕ, zero, suc, Bool, true, false, List, [], ◌∷◌, ◌++◌}
use Rattle.std.proofs.Common.{arith, ap, drop, inl, inr, length, refl, take, filter, not, None, Some}
use Rattle.std.specs.Prelude.{find, if◌then◌else◌, slice_index_or, ◌⊎◌}
use Rattle.std.specs.List.{AllByRecursion}
use Rattle.std.specs.List.Sorted.{IsPartitionedBy}
use Rattle.std.proofs.lemmas.Bool.{cases_lt}
use Rattle.policy_meaning.specs.LeafFact.{EachPair}

pub not_true : (b : Bool) → not b ≡ true → b ≡ false
not_true true t = cc
not_true false t = refl

pub not_false : (b : Bool) → not b ≡ false → b ≡ true
not_false true t = refl
not_false false t = cc

module _ {A : Type 0} where
  pub taken : (n : ℕ) (xs ys : List A) → n ≤ length xs → take n (take n xs ++ ys) ≡ take n xs
  taken zero xs ys le = refl
  taken (suc n) [] ys le = absurd (omega arith)
  taken (suc n) (x ∷ xs) ys le = ap (λ zs. x ∷ zs) (taken n xs ys (omega arith))

  pub dropped : (n : ℕ) (xs ys : List A) → n ≤ length xs → drop n (take n xs ++ ys) ≡ ys
  dropped zero xs ys le = refl
  dropped (suc n) [] ys le = absurd (omega arith)
  dropped (suc n) (x ∷ xs) ys le = dropped n xs ys (omega arith)

module _ {A : Type 0} (P : A → Type 0) where
  pub all_front : (xs ys : List A) → AllByRecursion P (xs ++ ys) → AllByRecursion P xs
  all_front [] ys h = tt
  all_front (x ∷ xs) ys h = (h.0, all_front xs ys h.1)

  pub all_back : (xs ys : List A) → AllByRecursion P (xs ++ ys) → AllByRecursion P ys
  all_back [] ys h = h
  all_back (x ∷ xs) ys h = all_back xs ys h.1

  all_at : (xs : List A) (j : ℕ) (d : A) → j < length xs → AllByRecursion P xs → P (slice_index_or xs j d)
  all_at [] j d lt h = absurd (omega arith)
  all_at (x ∷ xs) zero d lt h = h.0
  all_at (x ∷ xs) (suc j) d lt h = all_at xs j d (omega arith) h.1

module _ {A : Type 0} (R : A → A → Type 0) where
  pub pairs_front : (xs ys : List A) → EachPair R (xs ++ ys) → EachPair R xs
  pairs_front [] ys h = tt
  pairs_front (x ∷ xs) ys h = (all_front (R x) xs ys h.0, pairs_front xs ys h.1)

  pub pairs_back : (xs ys : List A) → EachPair R (xs ++ ys) → EachPair R ys
  pairs_back [] ys h = h
  pairs_back (x ∷ xs) ys h = pairs_back xs ys h.1

  pub pairs_across : (xs ys : List A) → EachPair R (xs ++ ys) → AllByRecursion (λ x. AllByRecursion (R x) ys) xs
  pairs_across [] ys h = tt
  pairs_across (x ∷ xs) ys h = (all_back (R x) xs ys h.0, pairs_across xs ys h.1)

  pub pair_at : (xs : List A) (i j : ℕ) (d : A) → i < j → j < length xs → EachPair R xs
      → R (slice_index_or xs i d) (slice_index_or xs j d)
  pair_at [] i j d lt h p = absurd (omega arith)
  pair_at (x ∷ xs) i zero d lt h p = absurd (omega arith)
  pair_at (x ∷ xs) zero (suc j) d lt h p = all_at (R x) xs j d (omega arith) p.0
  pair_at (x ∷ xs) (suc i) (suc j) d lt h p = pair_at xs i j d (omega arith) (omega arith) p.1

-- a test that no item passes behind one that fails it
pub parted_pairs : {A : Type 0} (p : A → Bool) (xs : List A) → EachPair (λ x y. p y ≡ true → p x ≡ true) xs
    → IsPartitionedBy p xs
parted_pairs p xs each i j d le lt t = by (cases_lt i j)
  where
    by : (i < j) ⊎ (j ≤ i) → p (slice_index_or xs i d) ≡ true
    by (inl less) = pair_at (λ x y. p y ≡ true → p x ≡ true) xs i j d less lt each t
    by (inr ge) = let same : i ≡ j = omega arith in ap (λ k. p (slice_index_or xs k d)) same ∙ t

-- what no item passes finds none, and keeps all
module _ {A : Type 0} (p : A → Bool) where
  pub find_none : (xs : List A) → AllByRecursion (λ x. p x ≡ false) xs → find p xs ≡ None
  find_none [] h = refl
  find_none (x ∷ xs) h = ap (λ b. if b then Some x else find p xs) h.0 ∙ find_none xs h.1

  pub find_front : (xs ys : List A) → AllByRecursion (λ x. p x ≡ false) xs → find p (xs ++ ys) ≡ find p ys
  find_front [] ys h = refl
  find_front (x ∷ xs) ys h = ap (λ b. if b then Some x else find p (xs ++ ys)) h.0 ∙ find_front xs ys h.1

  pub keep_all : (xs : List A) → AllByRecursion (λ x. p x ≡ false) xs → filter (λ x. not (p x)) xs ≡ xs
  keep_all [] h = refl
  keep_all (x ∷ xs) h =
      ap (λ b. if not b then x ∷ filter (λ y. not (p y)) xs else filter (λ y. not (p y)) xs) h.0
      ∙ ap (λ ys. x ∷ ys) (keep_all xs h.1)
