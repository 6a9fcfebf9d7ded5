-- What is kept of pairs, where one side of a pair decides; and pairs with candidates alone.
use Rattle.std.proofs.Common.{◌≡◌, Bool, true, false, List, [], ◌∷◌, ◌++◌, Option, Some, None, refl, ap, ◌∙◌, cond}
use Rattle.std.specs.Prelude.{filter_map, filter, IsPermutation}
use Rattle.std.specs.List.{cons_option}
use Rattle.std.proofs.lemmas.List.Elements.{filter-append}
use Rattle.list_change.specs.Pairing.{Way, made, pairs}
use Rattle.list_change.proofs.Permute.{permuted-filter_map}

module _ {C : Type 0} (p : C → Bool) where
  kept-one : (c : C) (cs : List C) (t : Bool) → p c ≡ t → filter p (c ∷ cs) ≡ cond t (c ∷ filter p cs) (filter p cs)
  kept-one c cs t e = ap (λ b. cond b (c ∷ filter p cs) (filter p cs)) e

  kept-by : (o : Option C) (cs : List C) → ((c : C) → o ≡ Some c → p c ≡ true)
      → filter p (cons_option o cs) ≡ cons_option o (filter p cs)
  kept-by None cs h = refl
  kept-by (Some c) cs h = kept-one c cs true (h c refl)

  dropped-by : (o : Option C) (cs : List C) → ((c : C) → o ≡ Some c → p c ≡ false)
      → filter p (cons_option o cs) ≡ filter p cs
  dropped-by None cs h = refl
  dropped-by (Some c) cs h = kept-one c cs false (h c refl)

module _ {C : Type 0} (p : C → Bool) where
  filter-cons : (t : Bool) (c : C) (xs ys : List C) → xs ≡ ys
      → cond t (c ∷ xs) xs ≡ cons_option (cond t (Some c) None) ys
  filter-cons true c xs ys e = ap (λ r. c ∷ r) e
  filter-cons false c xs ys e = e

  filter-is : (cs : List C) → filter p cs ≡ filter_map (λ c. cond (p c) (Some c) None) cs
  filter-is [] = refl
  filter-is (c ∷ cs) = filter-cons (p c) c (filter p cs) _ (filter-is cs)

  pub permuted-filter : (xs ys : List C) → IsPermutation xs ys → IsPermutation (filter p xs) (filter p ys)
  permuted-filter xs ys h = rw (filter-is xs, filter-is ys)
      (permuted-filter_map (λ c. cond (p c) (Some c) None) xs ys h)

module _ {B C : Type 0} (p : C → Bool) (g : B → Option C) where
  pub all-kept : ((b : B) (c : C) → g b ≡ Some c → p c ≡ true) → (ys : List B)
      → filter p (filter_map g ys) ≡ filter_map g ys
  all-kept h [] = refl
  all-kept h (y ∷ ys) = kept-by p (g y) (filter_map g ys) (h y) ∙ ap (cons_option (g y)) (all-kept h ys)

  pub none-kept : ((b : B) (c : C) → g b ≡ Some c → p c ≡ false) → (ys : List B) → filter p (filter_map g ys) ≡ []
  none-kept h [] = refl
  none-kept h (y ∷ ys) = dropped-by p (g y) (filter_map g ys) (h y) ∙ none-kept h ys

  module _ (q : B → Bool) where
    right-head : (y : B) (t : Bool) (ys zs : List B) → ((c : C) → g y ≡ Some c → p c ≡ t)
        → filter p (filter_map g ys) ≡ filter_map g zs
        → filter p (filter_map g (y ∷ ys)) ≡ filter_map g (cond t (y ∷ zs) zs)
    right-head y true ys zs h e = kept-by p (g y) (filter_map g ys) h ∙ ap (cons_option (g y)) e
    right-head y false ys zs h e = dropped-by p (g y) (filter_map g ys) h ∙ e

    -- what is kept is what the kept make
    pub filter-right_one : ((b : B) (c : C) → g b ≡ Some c → p c ≡ q b) → (ys : List B)
        → filter p (filter_map g ys) ≡ filter_map g (filter q ys)
    filter-right_one h [] = refl
    filter-right_one h (y ∷ ys) = right-head y (q y) ys (filter q ys) (h y) (filter-right_one h ys)

module _ {B C : Type 0} (g : B → Option C) (could : B → Bool) where
  passed-over : (y : B) (t : Bool) (zs : List B) → (t ≡ false → g y ≡ None)
      → cons_option (g y) (filter_map g zs) ≡ filter_map g (cond t (y ∷ zs) zs)
  passed-over y true zs h = refl
  passed-over y false zs h = ap (λ o. cons_option o (filter_map g zs)) (h refl)

  -- candidates are enough
  pub by-candidates : ((b : B) → could b ≡ false → g b ≡ None) → (ys : List B)
      → filter_map g ys ≡ filter_map g (filter could ys)
  by-candidates h [] = refl
  by-candidates h (y ∷ ys) = ap (cons_option (g y)) (by-candidates h ys)
      ∙ passed-over y (could y) (filter could ys) (h y)

module _ {A B C : Type 0} (f : A → B → Option C) (p : C → Bool) where
  left-head : (x : A) (t : Bool) (rest : List A) (ys : List B) → ((b : B) (c : C) → f x b ≡ Some c → p c ≡ t)
      → filter p (filter_map (f x) ys) ++ pairs f rest ys ≡ pairs f (cond t (x ∷ rest) rest) ys
  left-head x true rest ys h = ap (λ r. r ++ pairs f rest ys) (all-kept p (f x) h ys)
  left-head x false rest ys h = ap (λ r. r ++ pairs f rest ys) (none-kept p (f x) h ys)

  pub filter-left : (q : A → Bool) → ((a : A) (b : B) (c : C) → f a b ≡ Some c → p c ≡ q a)
      → (xs : List A) (ys : List B) → filter p (pairs f xs ys) ≡ pairs f (filter q xs) ys
  filter-left q h [] ys = refl
  filter-left q h (x ∷ xs) ys =
      filter-append p (filter_map (f x) ys) (pairs f xs ys)
      ∙ ap (λ r. filter p (filter_map (f x) ys) ++ r) (filter-left q h xs ys)
      ∙ left-head x (q x) (filter q xs) ys (h x)

  pub filter-right : (q : B → Bool) → ((a : A) (b : B) (c : C) → f a b ≡ Some c → p c ≡ q b)
      → (xs : List A) (ys : List B) → filter p (pairs f xs ys) ≡ pairs f xs (filter q ys)
  filter-right q h [] ys = refl
  filter-right q h (x ∷ xs) ys =
      filter-append p (filter_map (f x) ys) (pairs f xs ys)
      ∙ ap (λ r. r ++ filter p (pairs f xs ys)) (filter-right_one p (f x) q (h x) ys)
      ∙ ap (λ r. filter_map (f x) (filter q ys) ++ r) (filter-right q h xs ys)

module _ {A B C : Type 0} (w : Way A B C) (p : C → Bool) where
  -- without some of the left: what came of them goes, and nothing else
  pub made-without_left : (q : A → Bool) → ((a : A) (c : C) → w.lone a ≡ Some c → p c ≡ q a)
      → ((a : A) (b : B) (c : C) → w.pair a b ≡ Some c → p c ≡ q a)
      → ((b : B) (c : C) → w.other b ≡ Some c → p c ≡ true) →
      (xs : List A) (ys : List B) → filter p (made w xs ys) ≡ made w (filter q xs) ys
  made-without_left q h1 h2 h3 xs ys =
      filter-append p (filter_map w.lone xs ++ pairs w.pair xs ys) (filter_map w.other ys)
      ∙ ap (λ r. r ++ filter p (filter_map w.other ys)) (filter-append p (filter_map w.lone xs) (pairs w.pair xs ys)
      ∙ ap (λ r. r ++ filter p (pairs w.pair xs ys)) (filter-right_one p w.lone q h1 xs)
      ∙ ap (λ r. filter_map w.lone (filter q xs) ++ r) (filter-left w.pair p q h2 xs ys))
      ∙ ap (λ r. (filter_map w.lone (filter q xs) ++ pairs w.pair (filter q xs) ys) ++ r) (all-kept p w.other h3 ys)

  pub made-without_right : (q : B → Bool) → ((a : A) (c : C) → w.lone a ≡ Some c → p c ≡ true)
      → ((a : A) (b : B) (c : C) → w.pair a b ≡ Some c → p c ≡ q b) → ((b : B) (c : C) → w.other b ≡ Some c → p c ≡ q b)
      →
      (xs : List A) (ys : List B) → filter p (made w xs ys) ≡ made w xs (filter q ys)
  made-without_right q h1 h2 h3 xs ys =
      filter-append p (filter_map w.lone xs ++ pairs w.pair xs ys) (filter_map w.other ys)
      ∙ ap (λ r. r ++ filter p (filter_map w.other ys)) (filter-append p (filter_map w.lone xs) (pairs w.pair xs ys)
      ∙ ap (λ r. r ++ filter p (pairs w.pair xs ys)) (all-kept p w.lone h1 xs)
      ∙ ap (λ r. filter_map w.lone xs ++ r) (filter-right w.pair p q h2 xs ys))
      ∙ ap (λ r. (filter_map w.lone xs ++ pairs w.pair xs (filter q ys)) ++ r) (filter-right_one p w.other q h3 ys)
