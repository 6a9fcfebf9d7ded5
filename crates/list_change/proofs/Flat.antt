-- What each item makes, one after the other, and all of one kind before all of the other.
use Rattle.std.proofs.Common.{◌≡◌, List, [], ◌∷◌, ◌++◌, Option, Some, None, refl, sym, ap, ◌∙◌}
use Rattle.std.specs.Prelude.{filter_map, flat_map, IsPermutation}
use Rattle.std.specs.List.{cons_option}
use Rattle.std.proofs.lemmas.List.{append-nil}
use Rattle.std.proofs.lemmas.List.Sorted.{IsPermutation-refl, IsPermutation-trans, IsPermutation-append_right}
use Rattle.list_change.specs.Pairing.{Way, by_left, by_one, pairs}
use Rattle.list_change.proofs.Permute.{by-equation, interchange}

opened : {C : Type 0} (o : Option C) (cs : List C) → cons_option o cs ≡ cons_option o [] ++ cs
opened None cs = refl
opened (Some c) cs = refl

module _ {A C : Type 0} where
  pub none-of : (g : A → Option C) → ((a : A) → g a ≡ None) → (xs : List A) → filter_map g xs ≡ []
  none-of g h [] = refl
  none-of g h (x ∷ xs) = ap (λ o. cons_option o (filter_map g xs)) (h x) ∙ none-of g h xs

  pub flat-both : (f g : A → List C) (xs : List A)
      → IsPermutation (flat_map f xs ++ flat_map g xs) (flat_map (λ a. f a ++ g a) xs)
  flat-both f g [] = IsPermutation-refl []
  flat-both f g (x ∷ xs) =
      IsPermutation-trans _ ((f x ++ g x) ++ (flat_map f xs ++ flat_map g xs)) _
      (interchange (f x) (flat_map f xs) (g x) (flat_map g xs))
      (IsPermutation-append_right (f x ++ g x) _ _ (flat-both f g xs))

  pub flat-same : (f g : A → List C) → ((a : A) → f a ≡ g a) → (xs : List A) → flat_map f xs ≡ flat_map g xs
  flat-same f g h [] = refl
  flat-same f g h (x ∷ xs) = ap (λ z. z ++ flat_map f xs) (h x) ∙ ap (λ z. g x ++ z) (flat-same f g h xs)

  pub filter-flat : (f : A → Option C) (xs : List A) → filter_map f xs ≡ flat_map (λ a. cons_option (f a) []) xs
  filter-flat f [] = refl
  filter-flat f (x ∷ xs) = ap (cons_option (f x)) (filter-flat f xs)
      ∙ opened (f x) (flat_map (λ a. cons_option (f a) []) xs)

-- what each of some makes is what they make
pub each-made : {A B C : Type 0} (w : Way A B C) (ys : List B) (xs : List A) →
    IsPermutation (by_left w xs ys) (flat_map (by_one w ys) xs)
each-made w ys xs =
    IsPermutation-trans _ (flat_map (λ a. cons_option (w.lone a) []) xs ++ pairs w.pair xs ys) _
    (by-equation _ _ (ap (λ z. z ++ pairs w.pair xs ys) (filter-flat w.lone xs)))
    (IsPermutation-trans _ _ _ (flat-both (λ a. cons_option (w.lone a) []) (λ a. filter_map (w.pair a) ys) xs)
    (by-equation _ _ (flat-same _ (by_one w ys)
    (λ a. ap (λ z. cons_option (w.lone a) [] ++ z) (sym (append-nil (filter_map (w.pair a) ys)))) xs)))
