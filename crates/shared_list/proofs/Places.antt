-- Which run has the first item that passes.
use Rattle.std.proofs.Common.{◌≡◌, ◌∙◌, ◌-◌, ◌<◌, ◌≤◌, ℕ, zero, suc, Bool, true, false, List, [], ◌∷◌, ◌++◌, Some, None}
use Rattle.std.proofs.Common.{arith, ap, get_or, length, not, refl, sym}
use Rattle.std.specs.Prelude.{◌||◌, position, slice_get}
use Rattle.std.specs.Arc.{arc_value}
use Rattle.std.specs.List.{AllByRecursion, AllWithin, list_any}
use Rattle.std.specs.List.Sorted.{IsPartitionedBy}
use Rattle.std.proofs.lemmas.List.Quantifiers.{position-Some}
use Rattle.shared_list.specs.Behind.{StandBehind}
use Rattle.shared_list.specs.InsideRuns.{HaveItems, IsAtFirst, ends_with, joined}
use Rattle.shared_list.proofs.Firsts.{none_found}
use Rattle.shared_list.proofs.Runs.{Run}

not_true : (b : Bool) → not b ≡ true → b ≡ false
not_true true t = cc
not_true false t = refl

not_false : (b : Bool) → not b ≡ false → b ≡ true
not_false true f = refl
not_false false f = cc

module _ {A : Type 0} (q : A → Bool) where
  -- the last item
  one_less : (n : ℕ) → suc (suc n) - 1 ≡ suc (suc n - 1)
  one_less n = omega arith

  pub ends_last : (xs : List A) (x : A) → slice_get xs (length xs - 1) ≡ Some x → q x ≡ ends_with q xs
  ends_last [] x is = cc
  ends_last (y ∷ []) x is = let same : y ≡ x = cc in sym (ap q same)
  ends_last (y ∷ z ∷ zs) x is =
      ends_last (z ∷ zs) x (sym (ap (slice_get (y ∷ z ∷ zs)) (one_less (length zs))) ∙ is)

  pub ends_none : (xs : List A) → slice_get xs (length xs - 1) ≡ None → false ≡ ends_with q xs
  ends_none [] is = refl
  ends_none (y ∷ []) is = cc
  ends_none (y ∷ z ∷ zs) is =
      ends_none (z ∷ zs) (sym (ap (slice_get (y ∷ z ∷ zs)) (one_less (length zs))) ∙ is)

  all_back : (us vs : List A) → AllByRecursion (λ y. q y ≡ true) (us ++ vs) → AllByRecursion (λ y. q y ≡ true) vs
  all_back [] vs all = all
  all_back (u ∷ us) vs all = all_back us vs all.1

  all_front : (us vs : List A) → AllByRecursion (λ y. q y ≡ true) (us ++ vs) → AllByRecursion (λ y. q y ≡ true) us
  all_front [] vs all = tt
  all_front (u ∷ us) vs all = (all.0, all_front us vs all.1)

  -- items that stand behind others
  stand_front : (xs ws : List A) → StandBehind q (xs ++ ws) → StandBehind q xs
  stand_front [] ws h = tt
  stand_front (x ∷ xs) ws h = (λ t. all_front xs ws (h.0 t), stand_front xs ws h.1)

  stand_back : (xs ws : List A) → StandBehind q (xs ++ ws) → StandBehind q ws
  stand_back [] ws h = h
  stand_back (x ∷ xs) ws h = stand_back xs ws h.1

  ends_all : (xs : List A) → 0 < length xs → AllByRecursion (λ y. q y ≡ true) xs → ends_with q xs ≡ true
  ends_all [] some all = absurd (omega arith)
  ends_all (x ∷ []) some all = all.0
  ends_all (x ∷ y ∷ ys) some all = ends_all (y ∷ ys) (omega arith) all.1

  -- one passes where the last one does
  any_ends : (xs : List A) → StandBehind q xs → list_any q xs ≡ ends_with q xs
  any_ends [] h = refl
  any_ends (x ∷ []) h = by (q x)
    where
      by : (b : Bool) → (b || false) ≡ b
      by true = refl
      by false = refl
  any_ends (x ∷ y ∷ ys) h = by (q x) refl (any_ends (y ∷ ys) h.1)
    where
      by : (b : Bool) → q x ≡ b → list_any q (y ∷ ys) ≡ ends_with q (y ∷ ys)
          → (b || list_any q (y ∷ ys)) ≡ ends_with q (y ∷ ys)
      by true t rest = sym (ends_all (y ∷ ys) (omega arith) (h.0 t))
      by false f rest = rest

  -- behind a list whose last item passes all pass
  behind_end : (xs ws : List A) → StandBehind q (xs ++ ws) → ends_with q xs ≡ true
      → AllByRecursion (λ y. q y ≡ true) ws
  behind_end [] ws h t = cc
  behind_end (x ∷ []) ws h t = h.0 t
  behind_end (x ∷ y ∷ ys) ws h t = behind_end (y ∷ ys) ws h.1 t

  module _ {Z : Type 0} where
    abbrev pub ends : Run A Z → Bool
    ends r = ends_with q (arc_value r)

    runs_all : (rs : List (Run A Z)) → HaveItems rs → AllByRecursion (λ y. q y ≡ true) (joined rs)
        → AllByRecursion (λ r. ends r ≡ true) rs
    runs_all [] have all = tt
    runs_all (r ∷ rs) have all = (
      ends_all (arc_value r) have.0 (all_front (arc_value r) (joined rs) all),
      runs_all rs have.1 (all_back (arc_value r) (joined rs) all),
    )

    runs_same : (rs : List (Run A Z)) → StandBehind q (joined rs)
        → AllByRecursion (λ r. list_any q (arc_value r) ≡ ends r) rs
    runs_same [] h = tt
    runs_same (r ∷ rs) h = (
      any_ends (arc_value r) (stand_front (arc_value r) (joined rs) h),
      runs_same rs (stand_back (arc_value r) (joined rs) h),
    )

    all_at : (rs : List (Run A Z)) (j : ℕ) (d : Run A Z) → j < length rs → AllByRecursion (λ r. ends r ≡ true) rs
        → ends (get_or rs j d) ≡ true
    all_at [] j d lt all = absurd (omega arith)
    all_at (r ∷ rs) zero d lt all = all.0
    all_at (r ∷ rs) (suc j) d lt all = all_at rs j d (omega arith) all.1

    -- no run whose last item doesn't pass stands behind one whose last item does
    pub runs_parted : (rs : List (Run A Z)) → HaveItems rs → StandBehind q (joined rs)
        → IsPartitionedBy (λ r. not (ends r)) rs
    runs_parted [] have h i j d le lt t = absurd (omega arith)
    runs_parted (r ∷ rs) have h zero zero d le lt t = t
    runs_parted (r ∷ rs) have h (suc i) zero d le lt t = absurd (omega arith)
    runs_parted (r ∷ rs) have h zero (suc j) d le lt t = by (ends r) refl
      where
        by : (b : Bool) → ends r ≡ b → not b ≡ true
        by false f = refl
        by true e =
            let all = runs_all rs have.1 (behind_end (arc_value r) (joined rs) h e) in
            let never : ends (get_or rs j d) ≡ true = all_at rs j d (omega arith) all in
            let not_so : ends (get_or rs j d) ≡ false = not_true (ends (get_or rs j d)) t in
            cc
    runs_parted (r ∷ rs) have h (suc i) (suc j) d le lt t =
        runs_parted rs have.1 (stand_back (arc_value r) (joined rs) h) i j d (omega arith) (omega arith) t

    -- the place at which they begin to
    at_point : (rs : List (Run A Z)) (k : ℕ) → AllByRecursion (λ r. list_any q (arc_value r) ≡ ends r) rs
        → k < length rs → AllWithin (λ r. not (ends r) ≡ true) rs 0 k
        → AllWithin (λ r. not (ends r) ≡ false) rs k (length rs) → IsAtFirst q rs k
    at_point [] k same lt low high = absurd (omega arith)
    at_point (r ∷ rs) zero same lt low high =
        same.0 ∙ not_false (ends r) (high 0 r (omega arith) (omega arith))
    at_point (r ∷ rs) (suc k) same lt low high = (
      same.0 ∙ not_true (ends r) (low 0 r (omega arith) (omega arith)),
      at_point rs k same.1 (omega arith) (λ n d lo hi. low (suc n) d (omega arith) (omega arith))
          (λ n d lo hi. high (suc n) d (omega arith) (omega arith)),
    )

    past_point : (rs : List (Run A Z)) (k : ℕ) → AllByRecursion (λ r. list_any q (arc_value r) ≡ ends r) rs
        → length rs ≤ k → AllWithin (λ r. not (ends r) ≡ true) rs 0 k
        → AllByRecursion (λ r. list_any q (arc_value r) ≡ false) rs
    past_point [] k same le low = tt
    past_point (r ∷ rs) zero same le low = absurd (omega arith)
    past_point (r ∷ rs) (suc k) same le low = (
      same.0 ∙ not_true (ends r) (low 0 r (omega arith) (omega arith)),
      past_point rs k same.1 (omega arith) (λ n d lo hi. low (suc n) d (omega arith) (omega arith)),
    )

    pub searched : (rs : List (Run A Z)) (k : ℕ) → StandBehind q (joined rs) → k < length rs
        → AllWithin (λ r. not (ends r) ≡ true) rs 0 k → AllWithin (λ r. not (ends r) ≡ false) rs k (length rs)
        → IsAtFirst q rs k
    searched rs k h lt low high = at_point rs k (runs_same rs h) lt low high

    pub searched_none : (rs : List (Run A Z)) (k : ℕ) → StandBehind q (joined rs) → length rs ≤ k
        → AllWithin (λ r. not (ends r) ≡ true) rs 0 k → AllByRecursion (λ r. list_any q (arc_value r) ≡ false) rs
    searched_none rs k h le low = past_point rs k (runs_same rs h) le low

    -- the same, found by a look at each
    at_first : (rs : List (Run A Z)) (i : ℕ) (d : Run A Z) → i < length rs
        → list_any q (arc_value (get_or rs i d)) ≡ true
        → ((k : ℕ) → k < i → list_any q (arc_value (get_or rs k d)) ≡ false) → IsAtFirst q rs i
    at_first [] i d lt t f = absurd (omega arith)
    at_first (r ∷ rs) zero d lt t f = t
    at_first (r ∷ rs) (suc i) d lt t f =
        (f 0 (omega arith), at_first rs i d (omega arith) t (λ k less. f (suc k) (omega arith)))

    pub looked : (rs : List (Run A Z)) (i : ℕ) → position (λ r. list_any q (arc_value r)) rs ≡ Some i
        → IsAtFirst q rs i
    looked [] i e = cc
    looked (r ∷ rs) i e =
        let there = position-Some (λ (s : Run A Z). list_any q (arc_value s)) (r ∷ rs) i r e in
        at_first (r ∷ rs) i r there.0 there.1 there.2

    pub looked_none : (rs : List (Run A Z)) → position (λ r. list_any q (arc_value r)) rs ≡ None
        → AllByRecursion (λ r. list_any q (arc_value r) ≡ false) rs
    looked_none rs e = none_found (λ (s : Run A Z). list_any q (arc_value s)) rs e
