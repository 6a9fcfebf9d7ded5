-- Items in the buckets of their matches.
use Rattle.std.proofs.Common.{◌≡◌, ℕ, zero, suc, ◌+◌, Bool, true, false, cond, ◌||◌, List, [], ◌∷◌, ◌++◌, map, filter}
use Rattle.std.proofs.Common.{Option, Some, None, refl, sym, ap, ap₂, subst, ◌∙◌, arith, true≢false, count_by}
use Rattle.std.proofs.Common.{slice_get, get_or, not, position, ltb-false, le-ltb}
use Rattle.std.specs.Prelude.{swap_remove}
use Rattle.std.specs.List.{list_any, All, AllByRecursion, IsDistinct, sum_by}
use Rattle.std.specs.Map.{keys_of, lookup, values_of}
use Rattle.indexmap.specs.IndexMap.{set_value_at}
use Rattle.std.proofs.lemmas.List.Elements.{All-cons, All-head, All-nil, All-push, All-tail, filter-append}
use Rattle.std.proofs.lemmas.List.Quantifiers.{position-Some}
use Rattle.std.proofs.lemmas.List.Sorted.{All-permutation, IsPermutation-swap_remove}
use Rattle.std.proofs.lemmas.Map.Entries.{sum_by_values_permutation}
use Rattle.std.proofs.lemmas.Option.{slice_get_within, get_or_from_slice_get}
use Rattle.std.proofs.lemmas.List.Sums.{sum_by-cons}
use Rattle.of10_match.specs.Fields.{MatchOf}
use Rattle.of10_match.specs.Ranges.{IsMatch}
use Rattle.of10_match.specs.Same.{same_match}
use Rattle.of10_match.proofs.Same.{match_decides}
use Rattle.match_index.specs.InsideGroups.{AreBuckets, IsBucket, in_buckets}
use Rattle.match_index.specs.InsideShapes.{shape_of}
use Rattle.match_index.specs.Items.{AddsTo}
use Rattle.match_index.specs.declared.item.Item.{Item}
use Rattle.match_index.specs.declared.shape.Shape.{Shape}
use Rattle.match_index.proofs.Counts.{AddsTo-push, any_count, count-append, count-cons}
use Rattle.match_index.proofs.Tops.{or_false}

-- the items of a bucket that may be missing
abbrev pub bucket_items : Option (List Item) → List Item
bucket_items None = []
bucket_items (Some xs) = xs

filter-nothing : {X : Type 0} (p : X → Bool) (xs : List X) → All (λ x. p x ≡ false) xs → filter p xs ≡ []
filter-nothing p [] a = refl
filter-nothing p (x ∷ xs) a = ap (λ b. cond b (x ∷ filter p xs) (filter p xs)) (All-head (λ y. p y ≡ false) x xs a)
    ∙ filter-nothing p xs (All-tail (λ y. p y ≡ false) x xs a)

-- of one match alone something is asked for
module _ (shape : Shape) (p : Item → Bool) (k : MatchOf) (place : (e : Item) → IsMatch e.normal
    → shape_of e.normal ≡ shape → p e ≡ true → e.normal ≡ k) where
  other_item : (b : MatchOf × List Item) → IsMatch b.0 → shape_of b.0 ≡ shape → same_match k b.0 ≡ false → (e : Item)
      → e.normal ≡ b.0 → p e ≡ false
  other_item b r s n e m = by (p e) refl
    where
      by : (t : Bool) → p e ≡ t → p e ≡ false
      by true h =
          let at = place e (subst IsMatch (sym m) r) (ap shape_of m ∙ s) h in
          absurd (true≢false (sym ((match_decides k b.0).1 (sym at ∙ m)) ∙ n))
      by false h = h

  other_all : (b : MatchOf × List Item) → IsMatch b.0 → shape_of b.0 ≡ shape → same_match k b.0 ≡ false
      → (xs : List Item) → All (λ e. e.normal ≡ b.0) xs → filter p xs ≡ []
  other_all b r s n [] a = refl
  other_all b r s n (x ∷ xs) a =
      ap (λ t. cond t (x ∷ filter p xs) (filter p xs)) (other_item b r s n x (All-head (λ e. e.normal ≡ b.0) x xs a))
      ∙ other_all b r s n xs (All-tail (λ e. e.normal ≡ b.0) x xs a)

  other_bucket : (b : MatchOf × List Item) → IsBucket shape b → same_match k b.0 ≡ false → filter p b.1 ≡ []
  other_bucket b i n = other_all b i.in_range i.of_shape n b.1 i.of_match

  other_buckets : (bs : List (MatchOf × List Item)) → All (IsBucket shape) bs
      → AllByRecursion (λ y. same_match k y ≡ false) (map (λ b. b.0) bs) → filter p (in_buckets bs) ≡ []
  other_buckets [] a n = refl
  other_buckets (b ∷ bs) a n =
      filter-append p b.1 (in_buckets bs)
      ∙ ap₂ (λ x y. x ++ y) (other_bucket b (All-head (IsBucket shape) b bs a) n.0)
      (other_buckets bs (All-tail (IsBucket shape) b bs a) n.1)

  append_none : (xs : List Item) → xs ++ [] ≡ xs
  append_none [] = refl
  append_none (x ∷ xs) = ap (λ ys. x ∷ ys) (append_none xs)

  -- what is asked for stands in its bucket
  pub asked_in : (bs : List (MatchOf × List Item)) → All (IsBucket shape) bs → IsDistinct same_match (map (λ b. b.0) bs)
      → filter p (in_buckets bs) ≡ filter p (bucket_items (lookup (same_match k) bs))
  unfolding IsDistinct
  asked_in [] a d = refl
  asked_in (b ∷ bs) a d = by (same_match k b.0) refl (asked_in bs (All-tail (IsBucket shape) b bs a) d.1)
    where
      by : (t : Bool) → same_match k b.0 ≡ t
          → filter p (in_buckets bs) ≡ filter p (bucket_items (lookup (same_match k) bs))
          → filter p (b.1 ++ in_buckets bs) ≡ filter p (bucket_items (cond t (Some b.1) (lookup (same_match k) bs)))
      by true t r =
          let is : b.0 ≡ k = sym ((match_decides k b.0).0 t) in
          let Apart : MatchOf → Type 0 = λ m. AllByRecursion (λ y. same_match m y ≡ false) (map (λ c. c.0) bs) in
          filter-append p b.1 (in_buckets bs)
          ∙ (ap (λ ys. filter p b.1 ++ ys)
          (other_buckets bs (All-tail (IsBucket shape) b bs a) (subst Apart is d.0)) ∙ append_none (filter p b.1))
      by false t r = filter-append p b.1 (in_buckets bs)
          ∙ (ap (λ xs. xs ++ filter p (in_buckets bs)) (other_bucket b (All-head (IsBucket shape) b bs a) t) ∙ r)

-- how many items of all buckets pass a test
pub count_buckets : (p : Item → Bool) (bs : List (MatchOf × List Item))
    → count_by p (in_buckets bs) ≡ sum_by (λ xs. count_by p xs) (values_of bs)
count_buckets p [] = refl
count_buckets p (b ∷ bs) = count-append p b.1 (in_buckets bs)
    ∙ (ap (λ n. count_by p b.1 + n) (count_buckets p bs) ∙ sym (sum_by-cons (λ xs. count_by p xs) b.1 (values_of bs)))

-- with another bucket at a place
pub count_set : (p : Item → Bool) (bs : List (MatchOf × List Item)) (i : ℕ) (old new : List Item)
    → slice_get (values_of bs) i ≡ Some old
    → count_by p (in_buckets (set_value_at bs i new)) + count_by p old ≡ count_by p (in_buckets bs) + count_by p new
count_set p [] i old new e = absurd (cc)
count_set p (b ∷ bs) zero old new e =
    let same : b.1 ≡ old = cc in
    let was = count-append p b.1 (in_buckets bs) in
    let is = count-append p new (in_buckets bs) in
    let t : count_by p b.1 ≡ count_by p old = ap (λ xs. count_by p xs) same in
    omega (arith, was, is, t)
count_set p (b ∷ bs) (suc i) old new e =
    let was = count-append p b.1 (in_buckets bs) in
    let is = count-append p b.1 (in_buckets (set_value_at bs i new)) in
    let r = count_set p bs i old new e in
    omega (arith, was, is, r)

keys_set : (bs : List (MatchOf × List Item)) (i : ℕ) (new : List Item) → keys_of (set_value_at bs i new) ≡ keys_of bs
keys_set [] i new = refl
keys_set (b ∷ bs) zero new = refl
keys_set (b ∷ bs) (suc i) new = ap (λ ks. b.0 ∷ ks) (keys_set bs i new)

-- each bucket is one still where one at a place is
pub buckets_set : (shape : Shape) (bs : List (MatchOf × List Item)) (i : ℕ) (new : List Item) → All (IsBucket shape) bs
    → ((k : MatchOf) (old : List Item) → slice_get bs i ≡ Some (k, old) → IsBucket shape (k, new))
    → All (IsBucket shape) (set_value_at bs i new)
buckets_set shape [] i new a w = a
buckets_set shape (b ∷ bs) zero new a w = All-cons (IsBucket shape) (b.0, new) bs (w b.0 b.1 refl)
    (All-tail (IsBucket shape) b bs a)
buckets_set shape (b ∷ bs) (suc i) new a w =
    All-cons (IsBucket shape) b (set_value_at bs i new) (All-head (IsBucket shape) b bs a)
    (buckets_set shape bs i new (All-tail (IsBucket shape) b bs a) w)

-- the key of a place
keys_got : (bs : List (MatchOf × List Item)) (i : ℕ) (k d : MatchOf) (xs : List Item) → slice_get bs i ≡ Some (k, xs)
    → get_or (keys_of bs) i d ≡ k
keys_got [] i k d xs e = absurd (cc)
keys_got (b ∷ bs) zero k d xs e = cc
keys_got (b ∷ bs) (suc i) k d xs e = keys_got bs i k d xs e

pub key_at : (m k : MatchOf) (bs : List (MatchOf × List Item)) (i : ℕ) (xs : List Item)
    → position (same_match m) (keys_of bs) ≡ Some i → slice_get bs i ≡ Some (k, xs) → m ≡ k
key_at m k bs i xs p e =
    let s = position-Some (same_match m) (keys_of bs) i m p in
    (match_decides m _).0 s.1 ∙ keys_got bs i k m xs e

-- the bucket of a place
bucket_at : (shape : Shape) (bs : List (MatchOf × List Item)) (i : ℕ) (k : MatchOf) (xs : List Item)
    → All (IsBucket shape) bs → slice_get bs i ≡ Some (k, xs) → IsBucket shape (k, xs)
bucket_at shape [] i k xs a e = absurd (cc)
bucket_at shape (b ∷ bs) zero k xs a e = let s : b ≡ (k, xs) = cc in
    subst (IsBucket shape) s (All-head (IsBucket shape) b bs a)
bucket_at shape (b ∷ bs) (suc i) k xs a e = bucket_at shape bs i k xs (All-tail (IsBucket shape) b bs a) e

pub values_got : (bs : List (MatchOf × List Item)) (i : ℕ) (k : MatchOf) (xs ys : List Item)
    → slice_get bs i ≡ Some (k, xs) → slice_get (values_of bs) i ≡ Some ys → xs ≡ ys
values_got [] i k xs ys e f = absurd (cc)
values_got (b ∷ bs) zero k xs ys e f = let s : b ≡ (k, xs) = cc in ap (λ (t : MatchOf × List Item). t.1) (sym s)
    ∙ (let t : b.1 ≡ ys = cc in t)
values_got (b ∷ bs) (suc i) k xs ys e f = values_got bs i k xs ys e f

-- one more item in the bucket of its match
pub buckets_pushed : (shape : Shape) (item : Item) (bs : List (MatchOf × List Item)) (i : ℕ) (old new : List Item)
    → AreBuckets shape bs → position (same_match item.normal) (keys_of bs) ≡ Some i
    → slice_get (values_of bs) i ≡ Some old → new ≡ old ++ item ∷ [] → AreBuckets shape (set_value_at bs i new)
buckets_pushed shape item bs i old new a p v n = record {
  each = buckets_set shape bs i new a.each (λ k xs e.
      let b = bucket_at shape bs i k xs a.each e in
      let same : new ≡ xs ++ item ∷ [] = n ∙ ap (λ ys. ys ++ item ∷ []) (sym (values_got bs i k xs old e v)) in
      let of_match = All-push (λ (x : Item). x.normal ≡ k) xs item b.of_match (key_at item.normal k bs i xs p e) in
      let P : List Item → Type 0 = All (λ (x : Item). x.normal ≡ k) in
      record { of_shape = b.of_shape; in_range = b.in_range; of_match = subst P (sym same) of_match });
  once = let D : List MatchOf → Type 0 = IsDistinct same_match in subst D (sym (keys_set bs i new)) a.once;
}

-- of one match alone, as a test
abbrev is_other : MatchOf → Item → Bool
is_other k x = not (same_match k x.normal)

none_other : (k : MatchOf) (xs : List Item) → All (λ x. x.normal ≡ k) xs → list_any (is_other k) xs ≡ false
none_other k [] a = refl
none_other k (x ∷ xs) a =
    ap₂ (λ b c. not b || c) ((match_decides k x.normal).1 (sym (All-head (λ y. y.normal ≡ k) x xs a)))
    (none_other k xs (All-tail (λ y. y.normal ≡ k) x xs a))

all_same : (k : MatchOf) (xs : List Item) → list_any (is_other k) xs ≡ false → All (λ x. x.normal ≡ k) xs
all_same k [] n = All-nil (λ x. x.normal ≡ k)
all_same k (x ∷ xs) n = let o = or_false (is_other k x) (list_any (is_other k) xs) n in
    All-cons (λ y. y.normal ≡ k) x xs (by (same_match k x.normal) refl o.0) (all_same k xs o.1)
  where
    by : (b : Bool) → same_match k x.normal ≡ b → not b ≡ false → x.normal ≡ k
    by true t e = sym ((match_decides k x.normal).0 t)
    by false t e = absurd (true≢false e)

-- what none of more passes, none of fewer does
none_fewer : (q : Item → Bool) (x : Item) (xs ys : List Item) → AddsTo x xs ys → list_any q ys ≡ false
    → list_any q xs ≡ false
none_fewer q x xs ys a n =
    let c = a q in
    let zero_there = ltb-false 0 (count_by q ys) (sym (any_count q ys) ∙ n) in
    any_count q xs ∙ le-ltb 0 (count_by q xs) (omega (arith, c, zero_there))

-- one item less
pub buckets_taken : (shape : Shape) (item : Item) (bs : List (MatchOf × List Item)) (i : ℕ) (old new : List Item)
    → AreBuckets shape bs
    → slice_get (values_of bs) i ≡ Some old → AddsTo item new old → AreBuckets shape (set_value_at bs i new)
buckets_taken shape item bs i old new a v t = record {
  each = buckets_set shape bs i new a.each (λ k xs e.
      let b = bucket_at shape bs i k xs a.each e in
      let Of : List Item → Type 0 = All (λ (x : Item). x.normal ≡ k) in
      let of_old = subst Of (values_got bs i k xs old e v) b.of_match in
      record {
        of_shape = b.of_shape;
        in_range = b.in_range;
        of_match = all_same k new (none_fewer (is_other k) item new old t (none_other k old of_old));
      });
  once = let D : List MatchOf → Type 0 = IsDistinct same_match in subst D (sym (keys_set bs i new)) a.once;
}

-- nothing changes
pub set_same : (bs : List (MatchOf × List Item)) (i : ℕ) (old new : List Item) → slice_get (values_of bs) i ≡ Some old
    → new ≡ old → set_value_at bs i new ≡ bs
set_same [] i old new v n = refl
set_same (b ∷ bs) zero old new v n = let s : b.1 ≡ old = cc in ap (λ xs. (b.0, xs) ∷ bs) (n ∙ sym s)
set_same (b ∷ bs) (suc i) old new v n = ap (λ cs. b ∷ cs) (set_same bs i old new v n)

-- without an empty bucket
pub count_dropped : (p : Item → Bool) (bs : List (MatchOf × List Item)) (i : ℕ) (b : MatchOf × List Item)
    → slice_get bs i ≡ Some b → b.1 ≡ [] → count_by p (in_buckets (swap_remove bs i b)) ≡ count_by p (in_buckets bs)
count_dropped p bs i b e n =
    let moved = IsPermutation-swap_remove bs i b (slice_get_within bs i b e) (sym (get_or_from_slice_get bs i b b e)) in
    let s = sum_by_values_permutation (λ xs. count_by p xs) bs (b ∷ swap_remove bs i b) moved in
    let c = count_buckets p bs in
    let d = count_buckets p (swap_remove bs i b) in
    let f = sum_by-cons (λ xs. count_by p xs) b.1 (values_of (swap_remove bs i b)) in
    let z : count_by p b.1 ≡ 0 = ap (λ xs. count_by p xs) n in
    omega (arith, s, c, d, f, z)

pub each_dropped : (shape : Shape) (bs : List (MatchOf × List Item)) (i : ℕ) (b : MatchOf × List Item)
    → slice_get bs i ≡ Some b → All (IsBucket shape) bs → All (IsBucket shape) (swap_remove bs i b)
each_dropped shape bs i b e a =
    let moved = IsPermutation-swap_remove bs i b (slice_get_within bs i b e) (sym (get_or_from_slice_get bs i b b e)) in
    All-tail (IsBucket shape) b (swap_remove bs i b)
    (All-permutation (IsBucket shape) bs (b ∷ swap_remove bs i b) moved a)

pub pushed_at : (item : Item) (bs : List (MatchOf × List Item)) (i : ℕ) (old new : List Item)
    → slice_get (values_of bs) i ≡ Some old → new ≡ old ++ item ∷ []
    → AddsTo item (in_buckets bs) (in_buckets (set_value_at bs i new))
pushed_at item bs i old new v n p =
    let s = count_set p bs i old new v in
    let a = AddsTo-push old item p in
    let c : count_by p new ≡ count_by p (old ++ item ∷ []) = ap (λ xs. count_by p xs) n in
    omega (arith, s, a, c)

pub taken_at : (item : Item) (bs : List (MatchOf × List Item)) (i : ℕ) (old new : List Item)
    → slice_get (values_of bs) i ≡ Some old → AddsTo item new old
    → AddsTo item (in_buckets (set_value_at bs i new)) (in_buckets bs)
taken_at item bs i old new v t p = let s = count_set p bs i old new v in let a = t p in omega (arith, s, a)

-- one more bucket
pub bucket_added : (item : Item) (k : MatchOf) (bs : List (MatchOf × List Item))
    → AddsTo item (in_buckets bs) (in_buckets (bs ++ (k, item ∷ []) ∷ []))
bucket_added item k [] p = let c = count-cons p item [] in omega (arith, c)
bucket_added item k (b ∷ bs) p =
    let was = count-append p b.1 (in_buckets bs) in
    let is = count-append p b.1 (in_buckets (bs ++ (k, item ∷ []) ∷ [])) in
    let r = bucket_added item k bs p in
    omega (arith, was, is, r)

pub bucket_new : (shape : Shape) (item : Item) (bs : List (MatchOf × List Item)) → All (IsBucket shape) bs
    → shape_of item.normal ≡ shape → IsMatch item.normal → All (IsBucket shape) (bs ++ (item.normal, item ∷ []) ∷ [])
bucket_new shape item bs a s r = All-push (IsBucket shape) bs (item.normal, item ∷ []) a
    (record {
      of_shape = s;
      in_range = r;
      of_match =
          All-cons (λ (x : Item). x.normal ≡ item.normal) item [] refl (All-nil (λ (x : Item). x.normal ≡ item.normal));
    })
