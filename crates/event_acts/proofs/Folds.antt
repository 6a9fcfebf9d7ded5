-- Folds over lists that a loop goes through.
use Rattle.std.proofs.Common.{◌≡◌, ◌∙◌, ℕ, suc, ◌+◌, ◌<◌, List, [], ◌∷◌, ◌++◌, length, get_or, set, take, drop, reverse}
use Rattle.std.proofs.Common.{sym, ap, drop-cons, drop-set-lt, arith}
use Rattle.std.specs.Prelude.{fold}
use Rattle.std.proofs.lemmas.List.{reverse-append, take_more_set}

module _ {S A : Type 0} (f : S → A → S) where
  -- the items from a place on begin with the one there
  pub fold_from : (xs : List A) (i : ℕ) (d : A) (s : S) → i < length xs
      → fold f s (drop i xs) ≡ fold f (f s (get_or xs i d)) (drop (i + 1) xs)
  fold_from xs i d s h =
      let more : suc i ≡ i + 1 = omega arith in
      ap (fold f s) (drop-cons xs i d h) ∙ ap (λ k. fold f (f s (get_or xs i d)) (drop k xs)) more

  -- an item that was gone by is replaced
  pub fold_past : (xs : List A) (i : ℕ) (e d : A) (s : S) → i < length xs
      → fold f (f s (get_or xs i d)) (drop (i + 1) (set xs i e)) ≡ fold f s (drop i xs)
  fold_past xs i e d s h =
      ap (fold f (f s (get_or xs i d))) (drop-set-lt (i + 1) xs i e (omega arith)) ∙ sym (fold_from xs i d s h)

  -- back over one item more
  pub fold_back : (xs : List A) (i : ℕ) (e : A) (s t : S) → i < length xs → f t e ≡ s
      → fold f t (reverse (take (i + 1) (set xs i e))) ≡ fold f s (reverse (take i xs))
  fold_back xs i e s t h back =
      ap (λ ys. fold f t (reverse ys)) (take_more_set xs i e h)
      ∙ (ap (fold f t) (reverse-append (take i xs) (e ∷ []))
      ∙ ap (λ u. fold f u (reverse (take i xs))) back)

  -- back over a list whose last item is this one
  pub fold_last : (xs ys : List A) (e : A) (s : S) → ys ≡ xs ++ e ∷ []
      → fold f s (reverse ys) ≡ fold f (f s e) (reverse xs)
  fold_last xs ys e s h = ap (λ zs. fold f s (reverse zs)) h ∙ ap (fold f s) (reverse-append xs (e ∷ []))
