-- Changes of lists, made of changes of their parts.
use Rattle.std.proofs.Common.{Bool, true, false, List, [], ◌∷◌, ◌++◌, Option, subst}
use Rattle.std.specs.Prelude.{filter_map, flat_map, if◌then◌else◌, IsPermutation}
use Rattle.std.specs.List.{AllByRecursion}
use Rattle.std.proofs.lemmas.List.{append-nil}
use Rattle.std.proofs.lemmas.List.Elements.{filter_map-append}
use Rattle.std.proofs.lemmas.List.Sorted.{IsPermutation-append, IsPermutation-refl, IsPermutation-trans}
use Rattle.list_change.specs.Changes.{Changed}
use Rattle.list_change.proofs.PairLemmas.{changed-beside}
use Rattle.list_change.proofs.Permute.{by-equation, permuted-filter_map}

-- nothing changes
pub unchanged : {X : Type 0} (xs : List X) → Changed xs xs [] []
unchanged xs = record { kept = xs; was = IsPermutation-refl xs; is = IsPermutation-refl xs }

-- a list in another order is no change
pub reordered : {X : Type 0} (xs ys : List X) → IsPermutation xs ys → Changed xs ys [] []
reordered xs ys m = record { kept = ys; was = m; is = IsPermutation-refl ys }

module _ {A B : Type 0} where
  -- what items make changes with them
  pub changed-made : (f : A → Option B) (before after gone come : List A) → Changed before after gone come
      → Changed (filter_map f before) (filter_map f after) (filter_map f gone) (filter_map f come)
  changed-made f before after gone come c = record {
    kept = filter_map f c.kept;
    was = IsPermutation-trans _ _ _ (permuted-filter_map f before (gone ++ c.kept) c.was)
        (by-equation _ _ (filter_map-append f gone c.kept));
    is = IsPermutation-trans _ _ _ (permuted-filter_map f after (come ++ c.kept) c.is)
        (by-equation _ _ (filter_map-append f come c.kept));
  }

  -- lists that stand one after the other
  pub changed-each : (f g h k : A → List B) (xs : List A) → AllByRecursion (λ a. Changed (f a) (g a) (h a) (k a)) xs
      → Changed (flat_map f xs) (flat_map g xs) (flat_map h xs) (flat_map k xs)
  changed-each f g h k [] a = unchanged []
  changed-each f g h k (x ∷ xs) a =
      changed-beside (f x) (g x) (h x) (k x) (flat_map f xs) (flat_map g xs) (flat_map h xs) (flat_map k xs) a.0
      (changed-each f g h k xs a.1)

  -- where each item makes the same, in another order, all do
  pub each-permuted : (f g : A → List B) (xs : List A) → ((a : A) → IsPermutation (f a) (g a))
      → IsPermutation (flat_map f xs) (flat_map g xs)
  each-permuted f g [] h = IsPermutation-refl []
  each-permuted f g (x ∷ xs) h = IsPermutation-append (f x) (g x) (flat_map f xs) (flat_map g xs) (h x)
      (each-permuted f g xs h)

-- what a test lets through
pub changed-if : {X : Type 0} (b : Bool) (before after gone come : List X) → Changed before after gone come
    → Changed (if b then before else []) (if b then after else []) (if b then gone else []) (if b then come else [])
changed-if true before after gone come c = c
changed-if false before after gone come c = unchanged []

-- beside what stays
pub changed-with : {X : Type 0} (before after gone come rest : List X) → Changed before after gone come
    → Changed (before ++ rest) (after ++ rest) gone come
changed-with {X} before after gone come rest c =
    let d : Changed (before ++ rest) (after ++ rest) (gone ++ []) (come ++ []) =
    changed-beside before after gone come rest rest [] [] c (unchanged rest) in
    subst (λ (z : List X). Changed (before ++ rest) (after ++ rest) z come) (append-nil gone)
    (subst (λ (z : List X). Changed (before ++ rest) (after ++ rest) (gone ++ []) z) (append-nil come) d)
