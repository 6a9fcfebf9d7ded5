-- Lists that are made of lists, up to their order.
use Rattle.std.proofs.Common.{◌≡◌, Bool, true, false, List, [], ◌∷◌, ◌++◌, Option, Some, None, refl, sym, ap, ◌∙◌, map}
use Rattle.std.proofs.Common.{cond, append_assoc}
use Rattle.std.specs.Prelude.{filter, filter_map, flat_map, IsPermutation}
use Rattle.std.specs.List.{cons_option}
use Rattle.std.proofs.lemmas.List.Sorted.{IsPermutation-refl, IsPermutation-sym, IsPermutation-trans}
use Rattle.std.proofs.lemmas.List.Sorted.{IsPermutation-append, IsPermutation-append_comm, IsPermutation-append_right}
use Rattle.list_change.specs.Pairing.{Way, by_left, by_right, made, pairs}
use Rattle.list_change.proofs.PairLemmas.{left-split, pairs-right_append, pairs-right_permuted, right-split}
use Rattle.list_change.proofs.Permute.{by-equation, permuted-filter_map}

module _ {A B C : Type 0} (f : A → B → Option C) where
  pairs-none : (xs : List A) → pairs f xs [] ≡ []
  pairs-none [] = refl
  pairs-none (x ∷ xs) = pairs-none xs

  with-one : (x : A) (y : B) (o : Option C) (rest : List C) → f x y ≡ o
      → filter_map (f x) (y ∷ []) ++ rest ≡ cons_option o rest
  with-one x y None rest e = rw e refl
  with-one x y (Some c) rest e = rw e refl

  pairs-one : (xs : List A) (y : B) → pairs f xs (y ∷ []) ≡ filter_map (λ a. f a y) xs
  pairs-one [] y = refl
  pairs-one (x ∷ xs) y = with-one x y (f x y) (pairs f xs (y ∷ [])) refl ∙ ap (cons_option (f x y)) (pairs-one xs y)

  -- pairs, by the right
  pub pairs-turned : (xs : List A) (ys : List B)
      → IsPermutation (flat_map (λ y. filter_map (λ a. f a y) xs) ys) (pairs f xs ys)
  pairs-turned xs [] = by-equation _ _ (sym (pairs-none xs))
  pairs-turned xs (y ∷ ys) =
      IsPermutation-trans _ (pairs f xs (y ∷ []) ++ pairs f xs ys) _
      (IsPermutation-append _ _ _ _ (by-equation _ _ (sym (pairs-one xs y))) (pairs-turned xs ys))
      (IsPermutation-sym _ _ (pairs-right_append f xs (y ∷ []) ys))

module _ {A B C : Type 0} (w : Way A B C) where
  -- what both make, whichever their order
  pub made-permuted : (xs zs : List A) (ys us : List B) → IsPermutation xs zs → IsPermutation ys us
      → IsPermutation (made w xs ys) (made w zs us)
  made-permuted xs zs ys us h k =
      IsPermutation-trans _ (made w zs ys) _ (left-split w xs [] zs ys h)
      (IsPermutation-append _ _ _ _
      (IsPermutation-append_right (filter_map w.lone zs) _ _ (pairs-right_permuted w.pair zs ys us k))
      (permuted-filter_map w.other ys us k))

  -- what both make, where some come to each
  pub made-both : (zs cl kl : List A) (ys cr kr : List B) → IsPermutation zs (cl ++ kl) → IsPermutation ys (cr ++ kr) →
      IsPermutation (made w zs ys) (made w kl kr ++ (by_left w cl ys ++ by_right w kl cr))
  made-both zs cl kl ys cr kr h k =
      IsPermutation-trans _ (by_left w cl ys ++ made w kl ys) _ (left-split w zs cl kl ys h)
      (IsPermutation-trans _ (by_left w cl ys ++ (by_right w kl cr ++ made w kl kr)) _
      (IsPermutation-append_right (by_left w cl ys) _ _ (right-split w kl ys cr kr k))
      (IsPermutation-trans _ ((by_left w cl ys ++ by_right w kl cr) ++ made w kl kr) _
      (by-equation _ _ (sym (append_assoc (by_left w cl ys) (by_right w kl cr) (made w kl kr))))
      (IsPermutation-append_comm (by_left w cl ys ++ by_right w kl cr) (made w kl kr))))

module _ {A B : Type 0} where
  -- each part in another order
  pub flat-permuted : (f g : A → List B) → ((a : A) → IsPermutation (f a) (g a)) → (xs : List A)
      → IsPermutation (flat_map f xs) (flat_map g xs)
  flat-permuted f g h [] = IsPermutation-refl []
  flat-permuted f g h (x ∷ xs) = IsPermutation-append _ _ _ _ (h x) (flat-permuted f g h xs)

  filter-cond : (p : B → Bool) (f : A → B) (x : A) (t : Bool) (rest : List B) (more : List A) → rest ≡ map f more
      → cond t (f x ∷ rest) rest ≡ map f (cond t (x ∷ more) more)
  filter-cond p f x true rest more e = ap (λ z. f x ∷ z) e
  filter-cond p f x false rest more e = e

  pub filter-map : (p : B → Bool) (f : A → B) (xs : List A) → filter p (map f xs) ≡ map f (filter (λ x. p (f x)) xs)
  filter-map p f [] = refl
  filter-map p f (x ∷ xs) = filter-cond p f x (p (f x)) (filter p (map f xs)) (filter (λ x. p (f x)) xs)
      (filter-map p f xs)
