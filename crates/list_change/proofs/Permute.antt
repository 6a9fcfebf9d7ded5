-- Permutations by cases, and what goes through them.
use Rattle.std.proofs.Common.{◌≡◌, ℕ, zero, suc, ◌<◌, List, [], ◌∷◌, ◌++◌, Option, Some, None, length, get_or, set}
use Rattle.std.proofs.Common.{refl, subst, sym, ap, ◌∙◌, arith, append_assoc}
use Rattle.std.specs.Prelude.{flat_map, filter_map, IsPermutation}
use Rattle.std.specs.List.{swap, cons_option}
use Rattle.std.proofs.lemmas.List.Edits.{swap_is}
use Rattle.std.proofs.lemmas.List.Sorted.{IsPermutation-refl, IsPermutation-trans, IsPermutation-keeps}
use Rattle.std.proofs.lemmas.List.Sorted.{IsPermutation-append_left, IsPermutation-append_right}
use Rattle.std.proofs.lemmas.List.Sorted.{IsPermutation-append_comm}

module _ {X : Type 0} where
  pub data Perm : List X → List X → Type 0 where
    nil : Perm [] []
    skip : {xs ys : List X} (x : X) → Perm xs ys → Perm (x ∷ xs) (x ∷ ys)
    turn : (x y : X) (xs : List X) → Perm (x ∷ y ∷ xs) (y ∷ x ∷ xs)
    next : {xs ys zs : List X} → Perm xs ys → Perm ys zs → Perm xs zs

  pub same : (xs : List X) → Perm xs xs
  same [] = nil
  same (x ∷ xs) = skip x (same xs)

  out-in : (x : X) (l : List X) (j : ℕ) (d : X) → j < length l → Perm (x ∷ l) (get_or l j d ∷ set l j x)
  out-in x [] j d p = absurd (omega arith)
  out-in x (y ∷ l) zero d p = turn x y l
  out-in x (y ∷ l) (suc j) d p =
      next (turn x y l) (next (skip y (out-in x l j d (omega arith))) (turn y (get_or l j d) (set l j x)))

  swapped : (l : List X) (i j : ℕ) (d : X) → i < length l → j < length l
      → Perm l (set (set l i (get_or l j d)) j (get_or l i d))
  swapped [] i j d p q = absurd (omega arith)
  swapped (x ∷ l) zero zero d p q = same (x ∷ l)
  swapped (x ∷ l) zero (suc j) d p q = out-in x l j d (omega arith)
  swapped (x ∷ l) (suc i) zero d p q = out-in x l i d (omega arith)
  swapped (x ∷ l) (suc i) (suc j) d p q = skip x (swapped l i j d (omega arith) (omega arith))

  step : (l : List X) (i j : ℕ) → i < length l → j < length l → Perm l (swap l i j)
  step [] i j p q = absurd (omega arith)
  step (d ∷ l) i j p q = subst (Perm (d ∷ l)) (swap_is (d ∷ l) i j d p q) (swapped (d ∷ l) i j d p q)

  pub by-cases : (xs ys : List X) → IsPermutation xs ys → Perm xs ys
  by-cases xs ys h = IsPermutation-keeps xs (Perm xs) (same xs) (λ l i j p q k. next k (step l i j p q)) ys h

  pub by-equation : (xs ys : List X) → xs ≡ ys → IsPermutation xs ys
  by-equation xs ys e = subst (IsPermutation xs) e (IsPermutation-refl xs)

  -- four lists in another order
  pub interchange : (a b c d : List X) → IsPermutation ((a ++ b) ++ (c ++ d)) ((a ++ c) ++ (b ++ d))
  interchange a b c d =
      let inner : IsPermutation (b ++ (c ++ d)) (c ++ (b ++ d)) =
      IsPermutation-trans _ ((b ++ c) ++ d) _ (by-equation _ _ (sym (append_assoc b c d)))
      (IsPermutation-trans _ ((c ++ b) ++ d) _
      (IsPermutation-append_left d (b ++ c) (c ++ b) (IsPermutation-append_comm b c))
      (by-equation _ _ (append_assoc c b d))) in
      IsPermutation-trans _ (a ++ (b ++ (c ++ d))) _ (by-equation _ _ (append_assoc a b (c ++ d)))
      (IsPermutation-trans _ (a ++ (c ++ (b ++ d))) _ (IsPermutation-append_right a _ _ inner)
      (by-equation _ _ (sym (append_assoc a c (b ++ d)))))

-- of one answer, none or one
abbrev one : {Y : Type 0} → Option Y → List Y
one None = []
one (Some y) = y ∷ []

one-cons : {Y : Type 0} (o : Option Y) (ys : List Y) → one o ++ ys ≡ cons_option o ys
one-cons None ys = refl
one-cons (Some y) ys = refl

module _ {X Y : Type 0} where
  flat : (f : X → List Y) {xs ys : List X} → Perm xs ys → IsPermutation (flat_map f xs) (flat_map f ys)
  flat f nil = IsPermutation-refl []
  flat f (skip {xs = xs} {ys = ys} x p) = IsPermutation-append_right (f x) (flat_map f xs) (flat_map f ys) (flat f p)
  flat f (turn x y xs) =
      IsPermutation-trans _ ((f x ++ f y) ++ flat_map f xs) _
      (by-equation _ _ (sym (append_assoc (f x) (f y) (flat_map f xs))))
      (IsPermutation-trans _ ((f y ++ f x) ++ flat_map f xs) _
      (IsPermutation-append_left (flat_map f xs) (f x ++ f y) (f y ++ f x) (IsPermutation-append_comm (f x) (f y)))
      (by-equation _ _ (append_assoc (f y) (f x) (flat_map f xs))))
  flat f (next {xs = xs} {ys = ys} {zs = zs} p q) =
      IsPermutation-trans (flat_map f xs) (flat_map f ys) (flat_map f zs) (flat f p) (flat f q)

  pub permuted-flat_map : (f : X → List Y) (xs ys : List X) → IsPermutation xs ys
      → IsPermutation (flat_map f xs) (flat_map f ys)
  permuted-flat_map f xs ys h = flat f (by-cases xs ys h)

  pub filter_map-flat : (f : X → Option Y) (xs : List X) → flat_map (λ x. one (f x)) xs ≡ filter_map f xs
  filter_map-flat f [] = refl
  filter_map-flat f (x ∷ xs) = ap (λ r. one (f x) ++ r) (filter_map-flat f xs) ∙ one-cons (f x) (filter_map f xs)

  pub permuted-filter_map : (f : X → Option Y) (xs ys : List X) → IsPermutation xs ys
      → IsPermutation (filter_map f xs) (filter_map f ys)
  permuted-filter_map f xs ys h = rw (← filter_map-flat f xs, ← filter_map-flat f ys)
      (permuted-flat_map (λ x. one (f x)) xs ys h)
