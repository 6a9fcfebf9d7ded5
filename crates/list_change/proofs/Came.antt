-- What came of a change is what the list after it has more often than the one before.
use Rattle.std.proofs.Common.{◌≡◌, Bool, true, false, List, [], ◌∷◌, ◌++◌, refl, ap, sym, subst, ◌∙◌, arith}
use Rattle.std.specs.Prelude.{Contains, IsPermutation, if◌then◌else◌}
use Rattle.std.proofs.lemmas.List.Elements.{Contains-append_right}
use Rattle.std.proofs.lemmas.List.Sorted.{IsPermutation-refl, IsPermutation-trans, IsPermutation-append_comm}
use Rattle.std.proofs.lemmas.List.Sorted.{IsPermutation-append_left, IsPermutation-cons}
use Rattle.list_change.specs.Changes.{Apart, Changed}
use Rattle.list_change.specs.Coming.{TellsEqual, came, without}
use Rattle.list_change.proofs.Permute.{Perm, nil, skip, turn, next, same as unmoved, by-cases, by-equation}

module _ {X : Type 0} where
  -- a permutation by cases is one
  pub permuted : {xs ys : List X} → Perm xs ys → IsPermutation xs ys
  permuted nil = IsPermutation-refl []
  permuted (skip {xs = xs} {ys = ys} x p) = IsPermutation-cons x xs ys (permuted p)
  permuted (turn x y xs) = IsPermutation-append_left xs (x ∷ y ∷ []) (y ∷ x ∷ [])
      (IsPermutation-append_comm (x ∷ []) (y ∷ []))
  permuted (next {xs = xs} {ys = ys} {zs = zs} p q) = IsPermutation-trans xs ys zs (permuted p) (permuted q)

  along : (xs us ys vs : List X) → xs ≡ us → ys ≡ vs → Perm us vs → Perm xs ys
  along xs us ys vs e f p = rw (e, f) p

module _ {X : Type 0} (same : X → X → Bool) (tells : TellsEqual same) where
  pass : (x y : X) (l : List X) → same x y ≡ true → without same x (y ∷ l) ≡ l
  pass x y l e = ap (λ b. if b then l else y ∷ without same x l) e

  stay : (x y : X) (l : List X) → same x y ≡ false → without same x (y ∷ l) ≡ y ∷ without same x l
  stay x y l e = ap (λ b. if b then l else y ∷ without same x l) e

  -- without two items, in either order
  turned-at : (x y z : X) (l : List X) (s t : Bool) → same y z ≡ s → same x z ≡ t →
      without same x (without same y l) ≡ without same y (without same x l) →
      without same x (without same y (z ∷ l)) ≡ without same y (without same x (z ∷ l))
  turned-at x y z l true true d e h =
      ap (without same x) (pass y z l d)
      ∙ (ap (λ (w : X). without same w l) ((tells x z).0 e ∙ sym ((tells y z).0 d))
      ∙ sym (ap (without same y) (pass x z l e)))
  turned-at x y z l true false d e h =
      ap (without same x) (pass y z l d) ∙ sym (ap (without same y) (stay x z l e) ∙ pass y z (without same x l) d)
  turned-at x y z l false true d e h =
      (ap (without same x) (stay y z l d) ∙ pass x z (without same y l) e) ∙ sym (ap (without same y) (pass x z l e))
  turned-at x y z l false false d e h =
      (ap (without same x) (stay y z l d) ∙ stay x z (without same y l) e)
      ∙ (ap (λ r. z ∷ r) h ∙ sym (ap (without same y) (stay x z l e) ∙ stay y z (without same x l) d))

  turned : (x y : X) (l : List X) → without same x (without same y l) ≡ without same y (without same x l)
  turned x y [] = refl
  turned x y (z ∷ l) = turned-at x y z l (same y z) (same x z) refl refl (turned x y l)

  -- without an item of lists that are the same up to order
  skip-at : (x z : X) (xs ys : List X) (t : Bool) → same x z ≡ t → Perm xs ys
      → Perm (without same x xs) (without same x ys) →
      Perm (without same x (z ∷ xs)) (without same x (z ∷ ys))
  skip-at x z xs ys true e p h = along _ _ _ _ (pass x z xs e) (pass x z ys e) p
  skip-at x z xs ys false e p h = along _ _ _ _ (stay x z xs e) (stay x z ys e) (skip z h)

  turn-at : (x y z : X) (l : List X) (s t : Bool) → same x y ≡ s → same x z ≡ t →
      Perm (without same x (y ∷ z ∷ l)) (without same x (z ∷ y ∷ l))
  turn-at x y z l true true d e =
      along _ _ _ _ (pass x y (z ∷ l) d) (pass x z (y ∷ l) e)
      (subst (λ (w : X). Perm (z ∷ l) (w ∷ l)) (sym ((tells x z).0 e) ∙ (tells x y).0 d) (unmoved (z ∷ l)))
  turn-at x y z l true false d e =
      along _ _ _ _ (pass x y (z ∷ l) d) (stay x z (y ∷ l) e ∙ ap (λ r. z ∷ r) (pass x y l d)) (unmoved (z ∷ l))
  turn-at x y z l false true d e =
      along _ _ _ _ (stay x y (z ∷ l) d ∙ ap (λ r. y ∷ r) (pass x z l e)) (pass x z (y ∷ l) e) (unmoved (y ∷ l))
  turn-at x y z l false false d e =
      along _ _ _ _ (stay x y (z ∷ l) d ∙ ap (λ r. y ∷ r) (stay x z l e))
      (stay x z (y ∷ l) e ∙ ap (λ r. z ∷ r) (stay x y l d))
      (turn y z (without same x l))

  without-perm : (x : X) {xs ys : List X} → Perm xs ys → Perm (without same x xs) (without same x ys)
  without-perm x nil = nil
  without-perm x (skip {xs = xs} {ys = ys} z p) = skip-at x z xs ys (same x z) refl p (without-perm x p)
  without-perm x (turn y z l) = turn-at x y z l (same x y) (same x z) refl refl
  without-perm x (next {xs = xs} {ys = ys} {zs = zs} p q) = next (without-perm x p) (without-perm x q)

  after-perm : (before : List X) {xs ys : List X} → Perm xs ys → Perm (came same before xs) (came same before ys)
  after-perm [] p = p
  after-perm (x ∷ before) p = after-perm before (without-perm x p)

  before-perm : {xs ys : List X} → Perm xs ys → (after : List X) → Perm (came same xs after) (came same ys after)
  before-perm nil after = unmoved after
  before-perm (skip {xs = xs} {ys = ys} x p) after = before-perm p (without same x after)
  before-perm (turn x y xs) after = along _ _ _ _ (ap (came same xs) (turned y x after)) refl
      (unmoved (came same xs (without same x (without same y after))))
  before-perm (next {xs = xs} {ys = ys} {zs = zs} p q) after = next (before-perm p after) (before-perm q after)

  -- what came is the same in any order
  pub came-ordered : (before before' after after' : List X) → IsPermutation before before' → IsPermutation after after'
      →
      IsPermutation (came same before after) (came same before' after')
  came-ordered before before' after after' b a =
      permuted (next (before-perm (by-cases before before' b) after) (after-perm before' (by-cases after after' a)))

  -- what is in both doesn't come
  kept-stays : (kept gone come : List X) → came same (kept ++ gone) (kept ++ come) ≡ came same gone come
  kept-stays [] gone come = refl
  kept-stays (k ∷ kept) gone come = ap (came same (kept ++ gone)) (pass k k (kept ++ come) ((tells k k).1 refl))
      ∙ kept-stays kept gone come

  -- nothing comes where nothing changes
  pub none-came : (xs : List X) → came same xs xs ≡ []
  none-came [] = refl
  none-came (x ∷ xs) = ap (came same xs) (pass x x xs ((tells x x).1 refl)) ∙ none-came xs

  absent-at : (x y : X) (l : List X) (t : Bool) → same x y ≡ t → (Contains (y ∷ l) x → ⊥) → without same x l ≡ l
      → without same x (y ∷ l) ≡ y ∷ l
  absent-at x y l true e h i = absurd (h (0, omega arith, sym ((tells x y).0 e)))
  absent-at x y l false e h i = stay x y l e ∙ ap (λ r. y ∷ r) i

  -- without an item that isn't there
  absent : (x : X) (l : List X) → (Contains l x → ⊥) → without same x l ≡ l
  absent x [] h = refl
  absent x (y ∷ l) h = absent-at x y l (same x y) refl h (absent x l (λ i. h (Contains-append_right (y ∷ []) l x i)))

  apart-come : (gone come : List X) → Apart gone come → came same gone come ≡ come
  apart-come [] come h = refl
  apart-come (x ∷ gone) come h =
      ap (came same gone) (absent x come (h x (0, omega arith, refl)))
      ∙ apart-come gone come (λ y i. h y (Contains-append_right (x ∷ []) gone y i))

  -- what came of a change whose lists are apart
  pub what-came : (before after gone come : List X) → Changed before after gone come → Apart gone come →
      IsPermutation (came same before after) come
  what-came before after gone come c apart =
      IsPermutation-trans _ (came same (c.kept ++ gone) (c.kept ++ come)) _
      (came-ordered before (c.kept ++ gone) after (c.kept ++ come)
      (IsPermutation-trans _ _ _ c.was (IsPermutation-append_comm gone c.kept))
      (IsPermutation-trans _ _ _ c.is (IsPermutation-append_comm come c.kept)))
      (by-equation _ _ (kept-stays c.kept gone come ∙ apart-come gone come apart))
