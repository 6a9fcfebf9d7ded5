-- Pairs of two lists, of which one is in two parts.
use Rattle.std.proofs.Common.{◌≡◌, List, [], ◌∷◌, ◌++◌, Option, sym, append_assoc}
use Rattle.std.specs.Prelude.{filter_map, IsPermutation}
use Rattle.std.proofs.lemmas.Grind.{flat_map-append}
use Rattle.std.proofs.lemmas.List.Elements.{filter_map-append}
use Rattle.std.proofs.lemmas.List.Sorted.{IsPermutation-refl, IsPermutation-sym, IsPermutation-trans}
use Rattle.std.proofs.lemmas.List.Sorted.{IsPermutation-append, IsPermutation-append_left, IsPermutation-append_right}
use Rattle.std.proofs.lemmas.List.Sorted.{IsPermutation-append_comm}
use Rattle.list_change.specs.Pairing.{Way, made, pairs, by_left, by_right}
use Rattle.list_change.specs.Changes.{Changed}
use Rattle.list_change.proofs.Permute.{by-equation, interchange, permuted-flat_map, permuted-filter_map}

module _ {A B C : Type 0} (f : A → B → Option C) where
  pub pairs-left_append : (xs zs : List A) (ys : List B) → pairs f (xs ++ zs) ys ≡ pairs f xs ys ++ pairs f zs ys
  pairs-left_append xs zs ys = flat_map-append (λ a. filter_map (f a) ys) xs zs

  pub pairs-right_append : (xs : List A) (ys zs : List B)
      → IsPermutation (pairs f xs (ys ++ zs)) (pairs f xs ys ++ pairs f xs zs)
  pairs-right_append [] ys zs = IsPermutation-refl []
  pairs-right_append (x ∷ xs) ys zs =
      IsPermutation-trans _ ((filter_map (f x) ys ++ filter_map (f x) zs) ++ (pairs f xs ys ++ pairs f xs zs)) _
      (IsPermutation-append _ _ _ _ (by-equation _ _ (filter_map-append (f x) ys zs)) (pairs-right_append xs ys zs))
      (interchange (filter_map (f x) ys) (filter_map (f x) zs) (pairs f xs ys) (pairs f xs zs))

  pub pairs-left_permuted : (xs zs : List A) (ys : List B) → IsPermutation xs zs
      → IsPermutation (pairs f xs ys) (pairs f zs ys)
  pairs-left_permuted xs zs ys h = permuted-flat_map (λ a. filter_map (f a) ys) xs zs h

  pub pairs-right_permuted : (xs : List A) (ys zs : List B) → IsPermutation ys zs
      → IsPermutation (pairs f xs ys) (pairs f xs zs)
  pairs-right_permuted [] ys zs h = IsPermutation-refl []
  pairs-right_permuted (x ∷ xs) ys zs h = IsPermutation-append _ _ _ _ (permuted-filter_map (f x) ys zs h)
      (pairs-right_permuted xs ys zs h)

module _ {A B C : Type 0} (w : Way A B C) where
  pub by_left-append : (xs zs : List A) (ys : List B)
      → IsPermutation (by_left w (xs ++ zs) ys) (by_left w xs ys ++ by_left w zs ys)
  by_left-append xs zs ys =
      IsPermutation-trans _ ((filter_map w.lone xs ++ filter_map w.lone zs)
      ++ (pairs w.pair xs ys ++ pairs w.pair zs ys)) _
      (IsPermutation-append _ _ _ _ (by-equation _ _ (filter_map-append w.lone xs zs))
      (by-equation _ _ (pairs-left_append w.pair xs zs ys)))
      (interchange (filter_map w.lone xs) (filter_map w.lone zs) (pairs w.pair xs ys) (pairs w.pair zs ys))

  pub by_right-append : (xs : List A) (ys zs : List B)
      → IsPermutation (by_right w xs (ys ++ zs)) (by_right w xs ys ++ by_right w xs zs)
  by_right-append xs ys zs =
      IsPermutation-trans _ ((pairs w.pair xs ys ++ pairs w.pair xs zs)
      ++ (filter_map w.other ys ++ filter_map w.other zs)) _
      (IsPermutation-append _ _ _ _ (pairs-right_append w.pair xs ys zs)
      (by-equation _ _ (filter_map-append w.other ys zs)))
      (interchange (pairs w.pair xs ys) (pairs w.pair xs zs) (filter_map w.other ys) (filter_map w.other zs))

  pub by_left-permuted : (xs zs : List A) (ys : List B) → IsPermutation xs zs
      → IsPermutation (by_left w xs ys) (by_left w zs ys)
  by_left-permuted xs zs ys h = IsPermutation-append _ _ _ _ (permuted-filter_map w.lone xs zs h)
      (pairs-left_permuted w.pair xs zs ys h)

  pub by_right-permuted : (xs : List A) (ys zs : List B) → IsPermutation ys zs
      → IsPermutation (by_right w xs ys) (by_right w xs zs)
  by_right-permuted xs ys zs h = IsPermutation-append _ _ _ _ (pairs-right_permuted w.pair xs ys zs h)
      (permuted-filter_map w.other ys zs h)

  -- the left, in two parts
  pub left-split : (xs part rest : List A) (ys : List B) → IsPermutation xs (part ++ rest)
      → IsPermutation (made w xs ys) (by_left w part ys ++ made w rest ys)
  left-split xs part rest ys h =
      IsPermutation-trans _ ((by_left w part ys ++ by_left w rest ys) ++ filter_map w.other ys) _
      (IsPermutation-append_left (filter_map w.other ys) _ _
      (IsPermutation-trans _ _ _ (by_left-permuted xs (part ++ rest) ys h) (by_left-append part rest ys)))
      (by-equation _ _ (append_assoc (by_left w part ys) (by_left w rest ys) (filter_map w.other ys)))

  -- the right, in two parts
  pub right-split : (xs : List A) (ys part rest : List B) → IsPermutation ys (part ++ rest)
      → IsPermutation (made w xs ys) (by_right w xs part ++ made w xs rest)
  right-split xs ys part rest h =
      let lones = filter_map w.lone xs in
      let p = by_right w xs part in
      let r = by_right w xs rest in
      IsPermutation-trans _ (lones ++ by_right w xs ys) _
      (by-equation _ _ (append_assoc lones (pairs w.pair xs ys) (filter_map w.other ys)))
      (IsPermutation-trans _ (lones ++ (p ++ r)) _
      (IsPermutation-append_right lones _ _
      (IsPermutation-trans _ _ _ (by_right-permuted xs ys (part ++ rest) h) (by_right-append xs part rest)))
      (IsPermutation-trans _ ((lones ++ p) ++ r) _ (by-equation _ _ (sym (append_assoc lones p r)))
      (IsPermutation-trans _ ((p ++ lones) ++ r) _
      (IsPermutation-append_left r (lones ++ p) (p ++ lones) (IsPermutation-append_comm lones p))
      (IsPermutation-trans _ (p ++ (lones ++ r)) _ (by-equation _ _ (append_assoc p lones r))
      (IsPermutation-append_right p _ _
      (by-equation _ _ (sym (append_assoc lones (pairs w.pair xs rest) (filter_map w.other rest)))))))))

  pub left-changes : (xs zs gone come : List A) (ys : List B) → Changed xs zs gone come
      → Changed (made w xs ys) (made w zs ys) (by_left w gone ys) (by_left w come ys)
  left-changes xs zs gone come ys c =
      record {
        kept = made w c.kept ys;
        was = left-split xs gone c.kept ys c.was;
        is = left-split zs come c.kept ys c.is;
      }

  pub right-changes : (xs : List A) (ys zs gone come : List B) → Changed ys zs gone come
      → Changed (made w xs ys) (made w xs zs) (by_right w xs gone) (by_right w xs come)
  right-changes xs ys zs gone come c =
      record {
        kept = made w xs c.kept;
        was = right-split xs ys gone c.kept c.was;
        is = right-split xs zs come c.kept c.is;
      }

-- what is in both lists of a change stays
pub net-changed : {X : Type 0} (before after gone come gone' come' both : List X) → Changed before after gone come
    → IsPermutation gone (gone' ++ both) → IsPermutation come (come' ++ both) → Changed before after gone' come'
net-changed before after gone come gone' come' both c g h = record {
  kept = both ++ c.kept;
  was = IsPermutation-trans _ (gone ++ c.kept) _ c.was
      (IsPermutation-trans _ ((gone' ++ both) ++ c.kept) _ (IsPermutation-append_left c.kept gone (gone' ++ both) g)
      (by-equation _ _ (append_assoc gone' both c.kept)));
  is = IsPermutation-trans _ (come ++ c.kept) _ c.is
      (IsPermutation-trans _ ((come' ++ both) ++ c.kept) _ (IsPermutation-append_left c.kept come (come' ++ both) h)
      (by-equation _ _ (append_assoc come' both c.kept)));
}

-- a change is the same in any order of its lists
pub changed-ordered : {X : Type 0} (xs ys us vs gone come others rest : List X) → IsPermutation xs us
    → IsPermutation ys vs →
    IsPermutation gone others → IsPermutation come rest → Changed xs ys gone come → Changed us vs others rest
changed-ordered xs ys us vs gone come others rest x y g h c = record {
  kept = c.kept;
  was = IsPermutation-trans us xs _ (IsPermutation-sym xs us x)
      (IsPermutation-trans xs (gone ++ c.kept) _ c.was (IsPermutation-append_left c.kept gone others g));
  is = IsPermutation-trans vs ys _ (IsPermutation-sym ys vs y)
      (IsPermutation-trans ys (come ++ c.kept) _ c.is (IsPermutation-append_left c.kept come rest h));
}

-- changes of two lists that stand one after the other
pub changed-beside : {X : Type 0} (xs ys gone come us vs gone2 come2 : List X) → Changed xs ys gone come →
    Changed us vs gone2 come2 → Changed (xs ++ us) (ys ++ vs) (gone ++ gone2) (come ++ come2)
changed-beside xs ys gone come us vs gone2 come2 c d = record {
  kept = c.kept ++ d.kept;
  was = IsPermutation-trans _ _ _ (IsPermutation-append xs _ us _ c.was d.was) (interchange gone c.kept gone2 d.kept);
  is = IsPermutation-trans _ _ _ (IsPermutation-append ys _ vs _ c.is d.is) (interchange come c.kept come2 d.kept);
}
