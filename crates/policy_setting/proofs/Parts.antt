-- Lists that are others without some items, and pairs of items.
use Rattle.std.proofs.Common.{◌≡◌, sym, ap, subst, ℕ, suc, ◌+◌, Bool, List, [], ◌∷◌, ◌++◌, Some, map, inl, inr, arith}
use Rattle.std.proofs.Common.{refl}
use Rattle.std.specs.Prelude.{◌⊎◌, find, flat_map, slice_get}
use Rattle.std.specs.List.{AllByRecursion, enumerate_from}
use Rattle.agreement.proofs.Finding.{find-gives}
use Rattle.policy_meaning.specs.LeafFact.{EachPair}

-- the first list is the second one without some items
pub data Part {A : Type 0} : List A → List A → Type 0 where
  none : (ys : List A) → Part [] ys
  keep : (x : A) (xs ys : List A) → Part xs ys → Part (x ∷ xs) (x ∷ ys)
  skip : (y : A) (xs ys : List A) → Part xs ys → Part xs (y ∷ ys)

pub part_self : {A : Type 0} (xs : List A) → Part xs xs
part_self [] = none []
part_self (x ∷ xs) = keep x xs xs (part_self xs)

pub part_later : {A : Type 0} (xs ys zs : List A) → Part xs zs → Part xs (ys ++ zs)
part_later xs [] zs p = p
part_later xs (y ∷ ys) zs p = skip y xs (ys ++ zs) (part_later xs ys zs p)

pub part_both : {A : Type 0} {xs ys : List A} (cs ds : List A) → Part xs ys → Part cs ds → Part (xs ++ cs) (ys ++ ds)
part_both cs ds (none ys) q = part_later cs ys ds q
part_both cs ds (keep x xs ys p) q = keep x (xs ++ cs) (ys ++ ds) (part_both cs ds p q)
part_both cs ds (skip y xs ys p) q = skip y (xs ++ cs) (ys ++ ds) (part_both cs ds p q)

pub all_part : {A : Type 0} (P : A → Type 0) {xs ys : List A} → Part xs ys → AllByRecursion P ys → AllByRecursion P xs
all_part P (none ys) h = tt
all_part P (keep x xs ys p) h = (h.0, all_part P p h.1)
all_part P (skip y xs ys p) h = all_part P p h.1

pub pairs_part : {A : Type 0} (R : A → A → Type 0) {xs ys : List A} → Part xs ys → EachPair R ys → EachPair R xs
pairs_part R (none ys) h = tt
pairs_part R (keep x xs ys p) h = (all_part (R x) p h.0, pairs_part R p h.1)
pairs_part R (skip y xs ys p) h = pairs_part R p h.1

pub all_both : {A : Type 0} (P : A → Type 0) (xs ys : List A) → AllByRecursion P xs → AllByRecursion P ys
    → AllByRecursion P (xs ++ ys)
all_both P [] ys h k = k
all_both P (x ∷ xs) ys h k = (h.0, all_both P xs ys h.1 k)

pub all_first : {A : Type 0} (P : A → Type 0) (xs ys : List A) → AllByRecursion P (xs ++ ys) → AllByRecursion P xs
all_first P [] ys h = tt
all_first P (x ∷ xs) ys h = (h.0, all_first P xs ys h.1)

pub all_second : {A : Type 0} (P : A → Type 0) (xs ys : List A) → AllByRecursion P (xs ++ ys) → AllByRecursion P ys
all_second P [] ys h = h
all_second P (x ∷ xs) ys h = all_second P xs ys h.1

pub pairs_first : {A : Type 0} (R : A → A → Type 0) (xs ys : List A) → EachPair R (xs ++ ys) → EachPair R xs
pairs_first R [] ys h = tt
pairs_first R (x ∷ xs) ys h = (all_first (R x) xs ys h.0, pairs_first R xs ys h.1)

pub pairs_second : {A : Type 0} (R : A → A → Type 0) (xs ys : List A) → EachPair R (xs ++ ys) → EachPair R ys
pairs_second R [] ys h = h
pairs_second R (x ∷ xs) ys h = pairs_second R xs ys h.1

pub pairs_across : {A : Type 0} (R : A → A → Type 0) (xs ys : List A) → EachPair R (xs ++ ys)
    → AllByRecursion (λ x. AllByRecursion (R x) ys) xs
pairs_across R [] ys h = tt
pairs_across R (x ∷ xs) ys h = (all_second (R x) xs ys h.0, pairs_across R xs ys h.1)

-- one item more at the end
pub pairs_more : {A : Type 0} (R : A → A → Type 0) (xs : List A) (x : A) → EachPair R xs
    → AllByRecursion (λ y. R y x) xs → EachPair R (xs ++ x ∷ [])
pairs_more R [] x h k = (tt, tt)
pairs_more R (y ∷ ys) x h k = (all_both (R y) ys (x ∷ []) h.0 (k.0, tt), pairs_more R ys x h.1 k.1)

-- under a function
pub all_mapped : {A B : Type 0} (f : A → B) (P : B → Type 0) (xs : List A) → AllByRecursion P (map f xs)
    → AllByRecursion (λ x. P (f x)) xs
all_mapped f P [] h = tt
all_mapped f P (x ∷ xs) h = (h.0, all_mapped f P xs h.1)

pub mapped_all : {A B : Type 0} (f : A → B) (P : B → Type 0) (xs : List A) → AllByRecursion (λ x. P (f x)) xs
    → AllByRecursion P (map f xs)
mapped_all f P [] h = tt
mapped_all f P (x ∷ xs) h = (h.0, mapped_all f P xs h.1)

pub pairs_mapped : {A B : Type 0} (f : A → B) (R : B → B → Type 0) (xs : List A) → EachPair R (map f xs)
    → EachPair (λ x y. R (f x) (f y)) xs
pairs_mapped f R [] h = tt
pairs_mapped f R (x ∷ xs) h = (all_mapped f (R (f x)) xs h.0, pairs_mapped f R xs h.1)

pub mapped_pairs : {A B : Type 0} (f : A → B) (R : B → B → Type 0) (xs : List A) → EachPair (λ x y. R (f x) (f y)) xs
    → EachPair R (map f xs)
mapped_pairs f R [] h = tt
mapped_pairs f R (x ∷ xs) h = (mapped_all f (R (f x)) xs h.0, mapped_pairs f R xs h.1)

-- what follows for each item, and for each pair
pub all_weaker : {A : Type 0} (P Q : A → Type 0) → ((x : A) → P x → Q x) → (xs : List A) → AllByRecursion P xs
    → AllByRecursion Q xs
all_weaker P Q f [] h = tt
all_weaker P Q f (x ∷ xs) h = (f x h.0, all_weaker P Q f xs h.1)

pub all_of_two : {A : Type 0} (P Q S : A → Type 0) → ((x : A) → P x → Q x → S x) → (xs : List A) → AllByRecursion P xs
    → AllByRecursion Q xs → AllByRecursion S xs
all_of_two P Q S f [] h k = tt
all_of_two P Q S f (x ∷ xs) h k = (f x h.0 k.0, all_of_two P Q S f xs h.1 k.1)

pub pairs_weaker : {A : Type 0} (P : A → Type 0) (R S : A → A → Type 0) → ((x y : A) → P x → P y → R x y → S x y)
    → (xs : List A) → AllByRecursion P xs → EachPair R xs → EachPair S xs
pairs_weaker P R S f [] k h = tt
pairs_weaker P R S f (x ∷ xs) k h =
    (all_of_two P (R x) (S x) (λ y p r. f x y k.0 p r) xs k.1 h.0, pairs_weaker P R S f xs k.1 h.1)

-- two items are one, or such a pair
abbrev pub Met : {A : Type 0} → (A → A → Type 0) → A → A → Type 0
Met R a b = (a ≡ b) ⊎ (R a b ⊎ R b a)

pub all_met : {A : Type 0} (R : A → A → Type 0) (xs : List A) → EachPair R xs
    → AllByRecursion (λ x. AllByRecursion (Met R x) xs) xs
all_met R [] h = tt
all_met R (x ∷ xs) h = (
  (inl refl, all_weaker (R x) (Met R x) (λ y r. inr (inl r)) xs h.0),
  all_of_two (R x) (λ z. AllByRecursion (Met R z) xs) (λ z. AllByRecursion (Met R z) (x ∷ xs))
      (λ z r k. (inr (inr r), k)) xs h.0 (all_met R xs h.1),
)

pub met_found : {A : Type 0} (R : A → A → Type 0) (xs : List A) → EachPair R xs → (p q : A → Bool) (a b : A)
    → find p xs ≡ Some a → find q xs ≡ Some b → Met R a b
met_found R xs h p q a b e f =
    (find-gives (Met R a) q xs b (find-gives (λ x. AllByRecursion (Met R x) xs) p xs a (all_met R xs h) e).0 f).0

-- joined lists
pub all_joined : {A B : Type 0} (f : A → List B) (P : B → Type 0) (xs : List A)
    → AllByRecursion (λ x. AllByRecursion P (f x)) xs → AllByRecursion P (flat_map f xs)
all_joined f P [] h = tt
all_joined f P (x ∷ xs) h = all_both P (f x) (flat_map f xs) h.0 (all_joined f P xs h.1)

-- numbered items of a list
numbered_from : {A : Type 0} (all : List A) (m : ℕ) (xs : List A) → ((k : ℕ) → slice_get all (m + k) ≡ slice_get xs k)
    → AllByRecursion (λ (i : ℕ × A). slice_get all i.0 ≡ Some i.1) (enumerate_from m xs)
numbered_from all m [] h = tt
numbered_from all m (x ∷ xs) h =
    let p : m + 0 ≡ m = omega arith in (
      subst (λ (k : ℕ). slice_get all k ≡ Some x) p (h 0),
      numbered_from all (m + 1) xs (λ k. let q : m + suc k ≡ (m + 1) + k = omega arith in
          subst (λ (n : ℕ). slice_get all n ≡ slice_get xs k) q (h (suc k))),
    )

pub numbered : {A : Type 0} (xs : List A)
    → AllByRecursion (λ (i : ℕ × A). slice_get xs i.0 ≡ Some i.1) (enumerate_from 0 xs)
numbered xs = numbered_from xs 0 xs (λ k. let p : k ≡ 0 + k = omega arith in sym (ap (slice_get xs) p))

pub all_numbered : {A : Type 0} (P : A → Type 0) (m : ℕ) (xs : List A) → AllByRecursion P xs
    → AllByRecursion (λ (i : ℕ × A). P i.1) (enumerate_from m xs)
all_numbered P m [] h = tt
all_numbered P m (x ∷ xs) h = (h.0, all_numbered P (m + 1) xs h.1)
