-- Entries in the buckets of their keys.
use Rattle.std.proofs.Common.{◌≡◌, ℕ, zero, suc, ◌+◌, ◌<◌, Bool, true, false, cond, ◌&&◌, ◌||◌, List, [], ◌∷◌, ◌++◌}
use Rattle.std.proofs.Common.{map, filter, Option, Some, None, refl, sym, ap, ap₂, subst, ◌∙◌, arith, slice_get, get_or}
use Rattle.std.proofs.Common.{not, position, length, take}
use Rattle.std.specs.Prelude.{◌==◌, IfSome, if◌then◌else◌, swap_remove}
use Rattle.std.specs.List.{list_all, list_any, All, AllByRecursion, IsDistinct}
use Rattle.std.specs.Map.{keys_of, lookup, values_of}
use Rattle.indexmap.specs.IndexMap.{set_value_at}
use Rattle.std.proofs.lemmas.List.Elements.{All-cons, All-filter, All-head, All-nil, All-push, All-tail, filter-append}
use Rattle.std.proofs.lemmas.List.Quantifiers.{position-Some}
use Rattle.std.proofs.lemmas.List.Sorted.{All-permutation, IsPermutation-map, IsPermutation-swap_remove}
use Rattle.std.proofs.lemmas.List.Sorted.{list_any-IsPermutation}
use Rattle.std.proofs.lemmas.Map.Keys.{IsDistinct-IsPermutation, IsDistinct-cons, IsDistinct-push, IsDistinct-tail}
use Rattle.std.proofs.lemmas.Option.{slice_get_within, get_or_from_slice_get}
use Rattle.match_index.proofs.Lists.{take_pushed}
use Rattle.switch_meaning.specs.Same.{same_entry}
use Rattle.switch_meaning.specs.declared.entry.PhysEntry.{PhysEntry}
use Rattle.switch_meaning.proofs.Alike.{entry_decides}
use Rattle.std.proofs.Math.Bool.{and-true}
use Rattle.of10_match.proofs.Twelve.{and-false}
use Rattle.switch_meaning.proofs.Items.{all-filter, apart, fails, split_and}
use Rattle.exact_gate.specs.InsideBuckets.{AreBuckets, BucketOf, IsBucket, in_buckets, item_of}
use Rattle.exact_gate.specs.Standing.{inserted, key_of, one_key, removed, stands_in}
use Rattle.exact_gate.specs.declared.key.Key.{Key}
use Rattle.exact_gate.proofs.Standing.{key-flip, key_decides, or-false, same_laws, stands-append, stands-inserted}
use Rattle.exact_gate.proofs.Standing.{stands-removed}

-- the candidates of a bucket that may be missing
abbrev pub bucket_entries : Option BucketOf → List PhysEntry
bucket_entries None = []
bucket_entries (Some b) = b.entries

append_none : {X : Type 0} (xs : List X) → xs ++ [] ≡ xs
append_none [] = refl
append_none (x ∷ xs) = ap (λ ys. x ∷ ys) (append_none xs)

-- of one key alone something is asked for
module _ (p : PhysEntry → Bool) (k : Key) (place : (e : PhysEntry) → p e ≡ true → key_of e ≡ k) where
  other_entry : (l : Key) → one_key k l ≡ false → (e : PhysEntry) → key_of e ≡ l → p e ≡ false
  other_entry l n e m = fails (p e) (λ t. let s = (key_decides k l).1 (sym (place e t) ∙ m) in cc)

  other_all : (l : Key) → one_key k l ≡ false → (es : List PhysEntry) → All (λ (e : PhysEntry). key_of e ≡ l) es
      → filter p es ≡ []
  other_all l n [] a = refl
  other_all l n (e ∷ es) a =
      ap (λ t. cond t (e ∷ filter p es) (filter p es))
      (other_entry l n e (All-head (λ (d : PhysEntry). key_of d ≡ l) e es a))
      ∙ other_all l n es (All-tail (λ (d : PhysEntry). key_of d ≡ l) e es a)

  other_buckets : (bs : List (Key × BucketOf)) → All IsBucket bs
      → AllByRecursion (λ l. one_key k l ≡ false) (keys_of bs) → filter p (in_buckets bs) ≡ []
  other_buckets [] a n = refl
  other_buckets (b ∷ bs) a n =
      filter-append p b.1.entries (in_buckets bs)
      ∙ ap₂ (λ xs ys. xs ++ ys) (other_all b.0 n.0 b.1.entries (All-head IsBucket b bs a).of_key)
      (other_buckets bs (All-tail IsBucket b bs a) n.1)

  -- it stands in the bucket of the key
  pub asked_in : (bs : List (Key × BucketOf)) → All IsBucket bs → IsDistinct one_key (keys_of bs)
      → filter p (in_buckets bs) ≡ filter p (bucket_entries (lookup (one_key k) bs))
  unfolding IsDistinct
  asked_in [] a d = refl
  asked_in (b ∷ bs) a d = by (one_key k b.0) refl (asked_in bs (All-tail IsBucket b bs a) d.1)
    where
      by : (t : Bool) → one_key k b.0 ≡ t
          → filter p (in_buckets bs) ≡ filter p (bucket_entries (lookup (one_key k) bs))
          → filter p (b.1.entries ++ in_buckets bs)
          ≡ filter p (bucket_entries (cond t (Some b.1) (lookup (one_key k) bs)))
      by true t r =
          let is : b.0 ≡ k = sym ((key_decides k b.0).0 t) in
          let Apart : Key → Type 0 = λ l. AllByRecursion (λ m. one_key l m ≡ false) (keys_of bs) in
          filter-append p b.1.entries (in_buckets bs)
          ∙ (ap (λ ys. filter p b.1.entries ++ ys) (other_buckets bs (All-tail IsBucket b bs a) (subst Apart is d.0))
          ∙ append_none (filter p b.1.entries))
      by false t r =
          filter-append p b.1.entries (in_buckets bs)
          ∙ (ap (λ xs. xs ++ filter p (in_buckets bs))
          (other_all b.0 t b.1.entries (All-head IsBucket b bs a).of_key) ∙ r)

any_all : {X : Type 0} (p : X → Bool) (xs : List X) → list_any p xs ≡ list_any (λ _. true) (filter p xs)
any_all p [] = refl
any_all p (x ∷ xs) = by (p x) (any_all p xs)
  where
    by : (b : Bool) → list_any p xs ≡ list_any (λ _. true) (filter p xs)
        → (b || list_any p xs) ≡ list_any (λ _. true) (cond b (x ∷ filter p xs) (filter p xs))
    by true e = refl
    by false e = e

-- a candidate stands in the bucket of its key
pub has_in : (bs : List (Key × BucketOf)) (e : PhysEntry) → AreBuckets bs
    → stands_in (in_buckets bs) e ≡ stands_in (bucket_entries (lookup (one_key (key_of e)) bs)) e
has_in bs e a =
    let here = bucket_entries (lookup (one_key (key_of e)) bs) in
    any_all (same_entry e) (in_buckets bs)
    ∙ (ap (list_any (λ _. true))
    (asked_in (same_entry e) (key_of e) (λ d t. sym (ap key_of ((entry_decides e d).0 t))) bs a.each a.once)
    ∙ sym (any_all (same_entry e) here))

-- the candidates of all buckets but that at a place, as a test
abbrev pub in_others : List (Key × BucketOf) → ℕ → PhysEntry → Bool
in_others [] i e = false
in_others (b ∷ bs) zero e = stands_in (in_buckets bs) e
in_others (b ∷ bs) (suc i) e = stands_in b.1.entries e || in_others bs i e

or_swap : (a b c : Bool) → (a || (b || c)) ≡ (b || (a || c))
or_swap true true c = refl
or_swap true false c = refl
or_swap false b c = refl

-- with another bucket at a place
pub split_set : (bs : List (Key × BucketOf)) (i : ℕ) (old new : BucketOf) (e : PhysEntry)
    → slice_get (values_of bs) i ≡ Some old
    → stands_in (in_buckets (set_value_at bs i new)) e ≡ (stands_in new.entries e || in_others bs i e)
split_set [] i old new e v = absurd (cc)
split_set (b ∷ bs) zero old new e v = stands-append new.entries (in_buckets bs) e
split_set (b ∷ bs) (suc i) old new e v =
    stands-append b.1.entries (in_buckets (set_value_at bs i new)) e
    ∙ (ap (λ t. stands_in b.1.entries e || t) (split_set bs i old new e v)
    ∙ or_swap (stands_in b.1.entries e) (stands_in new.entries e) (in_others bs i e))

pub split_old : (bs : List (Key × BucketOf)) (i : ℕ) (old : BucketOf) (e : PhysEntry)
    → slice_get (values_of bs) i ≡ Some old
    → stands_in (in_buckets bs) e ≡ (stands_in old.entries e || in_others bs i e)
split_old [] i old e v = absurd (cc)
split_old (b ∷ bs) zero old e v =
    let is : b.1 ≡ old = cc in
    stands-append b.1.entries (in_buckets bs) e
    ∙ ap (λ (x : BucketOf). stands_in x.entries e || stands_in (in_buckets bs) e) is
split_old (b ∷ bs) (suc i) old e v =
    stands-append b.1.entries (in_buckets bs) e
    ∙ (ap (λ t. stands_in b.1.entries e || t) (split_old bs i old e v)
    ∙ or_swap (stands_in b.1.entries e) (stands_in old.entries e) (in_others bs i e))

-- candidates of other keys are others
apart_all : (k : Key) (es : List PhysEntry) (e : PhysEntry) → All (λ (d : PhysEntry). key_of d ≡ k) es
    → one_key (key_of e) k ≡ false → stands_in es e ≡ false
apart_all k [] e a n = refl
apart_all k (d ∷ es) e a n = by (same_entry e d) refl
    (apart_all k es e (All-tail (λ (x : PhysEntry). key_of x ≡ k) d es a) n)
  where
    by : (b : Bool) → same_entry e d ≡ b → stands_in es e ≡ false → (b || stands_in es e) ≡ false
    by true t r = let s = (key_decides (key_of e) k).1 (ap key_of ((entry_decides e d).0 t)
        ∙ All-head (λ (x : PhysEntry). key_of x ≡ k) d es a) in cc
    by false t r = r

pub apart_buckets : (bs : List (Key × BucketOf)) (e : PhysEntry) → All IsBucket bs
    → AllByRecursion (λ l. one_key (key_of e) l ≡ false) (keys_of bs) → stands_in (in_buckets bs) e ≡ false
apart_buckets [] e a n = refl
apart_buckets (b ∷ bs) e a n =
    stands-append b.1.entries (in_buckets bs) e
    ∙ ap₂ (λ s t. s || t) (apart_all b.0 b.1.entries e (All-head IsBucket b bs a).of_key n.0)
    (apart_buckets bs e (All-tail IsBucket b bs a) n.1)

-- none of another bucket has the key of the one at a place
pub others_none : (bs : List (Key × BucketOf)) (i : ℕ) (k d : Key) (e : PhysEntry) → AreBuckets bs
    → i < length (keys_of bs) → get_or (keys_of bs) i d ≡ key_of e → in_others bs i e ≡ false
unfolding IsDistinct
others_none [] i k d e a h g = refl
others_none (b ∷ bs) zero k d e a h g =
    let Apart : Key → Type 0 = λ l. AllByRecursion (λ m. one_key l m ≡ false) (keys_of bs) in
    apart_buckets bs e (All-tail IsBucket b bs a.each) (subst Apart g a.once.0)
others_none (b ∷ bs) (suc i) k d e a h g =
    ap₂ (λ s t. s || t)
    (apart_all b.0 b.1.entries e (All-head IsBucket b bs a.each).of_key
    (key-flip (key_of e) b.0 ∙ (ap (one_key b.0) (sym g) ∙ at (keys_of bs) i a.once.0 (omega arith))))
    (others_none bs i k d e (record { each = All-tail IsBucket b bs a.each; once = a.once.1 }) (omega arith) g)
  where
    at : (ls : List Key) (j : ℕ) → AllByRecursion (λ m. one_key b.0 m ≡ false) ls → j < length ls
        → one_key b.0 (get_or ls j d) ≡ false
    at [] j n h = absurd (omega arith)
    at (l ∷ ls) zero n h = n.0
    at (l ∷ ls) (suc j) n h = at ls j n.1 (omega arith)

keys_set : (bs : List (Key × BucketOf)) (i : ℕ) (new : BucketOf) → keys_of (set_value_at bs i new) ≡ keys_of bs
keys_set [] i new = refl
keys_set (b ∷ bs) zero new = refl
keys_set (b ∷ bs) (suc i) new = ap (λ ks. b.0 ∷ ks) (keys_set bs i new)

-- nothing changes
pub set_same : (bs : List (Key × BucketOf)) (i : ℕ) (old new : BucketOf) → slice_get (values_of bs) i ≡ Some old
    → new ≡ old → set_value_at bs i new ≡ bs
set_same [] i old new v n = refl
set_same (b ∷ bs) zero old new v n = let s : b.1 ≡ old = cc in ap (λ x. (b.0, x) ∷ bs) (n ∙ sym s)
set_same (b ∷ bs) (suc i) old new v n = ap (λ cs. b ∷ cs) (set_same bs i old new v n)

-- the indexes know it as before
pub items_set : (bs : List (Key × BucketOf)) (i : ℕ) (old new : BucketOf) → slice_get (values_of bs) i ≡ Some old
    → new.id ≡ old.id → map item_of (set_value_at bs i new) ≡ map item_of bs
items_set [] i old new v n = refl
items_set (b ∷ bs) zero old new v n =
    let s : b.1 ≡ old = cc in ap (λ id. record { id = id; rank = b.0.priority; normal = b.0.m } ∷ map item_of bs)
    (n ∙ ap (λ (x : BucketOf). x.id) (sym s))
items_set (b ∷ bs) (suc i) old new v n = ap (λ xs. item_of b ∷ xs) (items_set bs i old new v n)

-- each bucket is one still where one at a place is
each_set : (bs : List (Key × BucketOf)) (i : ℕ) (d : Key) (old new : BucketOf) → All IsBucket bs
    → slice_get (values_of bs) i ≡ Some old
    → (IsBucket (get_or (keys_of bs) i d, old) → IsBucket (get_or (keys_of bs) i d, new))
    → All IsBucket (set_value_at bs i new)
each_set [] i d old new a v w = a
each_set (b ∷ bs) zero d old new a v w =
    let s : b.1 ≡ old = cc in
    let P : BucketOf → Type 0 = λ x. IsBucket (b.0, x) in
    All-cons IsBucket (b.0, new) bs (w (subst P s (All-head IsBucket b bs a))) (All-tail IsBucket b bs a)
each_set (b ∷ bs) (suc i) d old new a v w =
    All-cons IsBucket b (set_value_at bs i new) (All-head IsBucket b bs a)
    (each_set bs i d old new (All-tail IsBucket b bs a) v w)

pub buckets_set : (bs : List (Key × BucketOf)) (i : ℕ) (d : Key) (old new : BucketOf) → AreBuckets bs
    → slice_get (values_of bs) i ≡ Some old
    → (IsBucket (get_or (keys_of bs) i d, old) → IsBucket (get_or (keys_of bs) i d, new))
    → AreBuckets (set_value_at bs i new)
buckets_set bs i d old new a v w = record {
  each = each_set bs i d old new a.each v w;
  once = let D : List Key → Type 0 = IsDistinct one_key in subst D (sym (keys_set bs i new)) a.once;
}

-- without the bucket at a place, whose candidates are one alone
pub buckets_dropped : (bs : List (Key × BucketOf)) (i : ℕ) (b : Key × BucketOf) → slice_get bs i ≡ Some b
    → AreBuckets bs → AreBuckets (b ∷ swap_remove bs i b)
buckets_dropped bs i b v a =
    let moved = IsPermutation-swap_remove bs i b (slice_get_within bs i b v) (sym (get_or_from_slice_get bs i b b v)) in
    record {
      each = All-permutation IsBucket bs (b ∷ swap_remove bs i b) moved a.each;
      once = IsDistinct-IsPermutation one_key key-flip (keys_of bs) (keys_of (b ∷ swap_remove bs i b))
          (IsPermutation-map (λ (c : Key × BucketOf). c.0) bs (b ∷ swap_remove bs i b) moved) a.once;
    }

-- the key at the place where a key is found
own_key : (ks : List Key) (i : ℕ) (k : Key) → position (one_key k) ks ≡ Some i → (i < length ks) × (get_or ks i k ≡ k)
own_key ks i k p = let s = position-Some (one_key k) ks i k p in (s.0, sym ((key_decides k (get_or ks i k)).0 s.1))

not_none : (d : PhysEntry) (ds : List PhysEntry) → (length (d ∷ ds) == 0) ≡ false
not_none d ds = apart (length (d ∷ ds)) 0 (λ e. omega (arith, e))

-- a list with one entry more is not empty, has the key, and each entry once
more_some : (es : List PhysEntry) (x : PhysEntry) → (length (inserted es x) == 0) ≡ false
more_some es x = by (stands_in es x) refl
  where
    pushed_some : (ds : List PhysEntry) → (length (ds ++ x ∷ []) == 0) ≡ false
    pushed_some [] = not_none x []
    pushed_some (d ∷ ds) = not_none d (ds ++ x ∷ [])

    there_some : (ds : List PhysEntry) → stands_in ds x ≡ true → (length ds == 0) ≡ false
    there_some [] t = cc
    there_some (d ∷ ds) t = not_none d ds

    by : (b : Bool) → stands_in es x ≡ b → (length (if b then es else es ++ x ∷ []) == 0) ≡ false
    by true t = there_some es t
    by false t = pushed_some es

inserted_all : (P : PhysEntry → Type 0) (es : List PhysEntry) (x : PhysEntry) → All P es → P x → All P (inserted es x)
inserted_all P es x a p = by (stands_in es x)
  where
    by : (b : Bool) → All P (if b then es else es ++ x ∷ [])
    by true = a
    by false = All-push P es x a p

inserted_once : (es : List PhysEntry) (x : PhysEntry) → IsDistinct same_entry es
    → IsDistinct same_entry (inserted es x)
inserted_once es x d = by (stands_in es x) refl
  where
    by : (b : Bool) → stands_in es x ≡ b → IsDistinct same_entry (if b then es else es ++ x ∷ [])
    by true t = d
    by false t = IsDistinct-push same_laws es x d t

-- one entry more at a place
pub stands_set_inserted : (bs : List (Key × BucketOf)) (i : ℕ) (old new : BucketOf) (x e : PhysEntry)
    → slice_get (values_of bs) i ≡ Some old → new ≡ record old { entries = inserted old.entries x }
    → stands_in (in_buckets (set_value_at bs i new)) e ≡ (stands_in (in_buckets bs) e || same_entry e x)
stands_set_inserted bs i old new x e v n =
    split_set bs i old new e v
    ∙ (ap (λ (b : BucketOf). stands_in b.entries e || in_others bs i e) n
    ∙ (ap (λ t. t || in_others bs i e) (stands-inserted old.entries x e)
    ∙ (or_last (stands_in old.entries e) (same_entry e x) (in_others bs i e)
    ∙ ap (λ t. t || same_entry e x) (sym (split_old bs i old e v)))))
  where
    or_last : (a b c : Bool) → ((a || b) || c) ≡ ((a || c) || b)
    or_last true b c = refl
    or_last false true true = refl
    or_last false true false = refl
    or_last false false true = refl
    or_last false false false = refl

pub buckets_inserted : (bs : List (Key × BucketOf)) (i : ℕ) (old new : BucketOf) (x : PhysEntry) → AreBuckets bs
    → slice_get (values_of bs) i ≡ Some old → position (one_key (key_of x)) (keys_of bs) ≡ Some i
    → new ≡ record old { entries = inserted old.entries x } → AreBuckets (set_value_at bs i new)
buckets_inserted bs i old new x a v p n =
    let own = (own_key (keys_of bs) i (key_of x) p).1 in
    buckets_set bs i (key_of x) old new a v (λ b.
    let is : IsBucket (get_or (keys_of bs) i (key_of x), record old { entries = inserted old.entries x }) = record {
      some = more_some old.entries x;
      of_key = inserted_all (λ (e : PhysEntry). key_of e ≡ get_or (keys_of bs) i (key_of x)) old.entries x b.of_key
          (sym own);
      once = inserted_once old.entries x b.once;
    } in
    subst (λ (z : BucketOf). IsBucket (get_or (keys_of bs) i (key_of x), z)) (sym n) is)

-- one entry is left out of one list, and stands in no other
without_one : (s x o : Bool) → (x ≡ true → o ≡ false) → ((s && not x) || o) ≡ ((s || o) && not x)
without_one s true true h = let e = h refl in cc
without_one true true false h = refl
without_one false true false h = refl
without_one true false o h = refl
without_one false false true h = refl
without_one false false false h = refl

-- where not all are the same, some are left
left_some : (es : List PhysEntry) (x : PhysEntry) → list_all (same_entry x) es ≡ false
    → (length (removed es x) == 0) ≡ false
left_some [] x m = cc
left_some (e ∷ es) x m = by (same_entry x e) (λ t. left_some es x t) m
  where
    by : (b : Bool) → (list_all (same_entry x) es ≡ false → (length (removed es x) == 0) ≡ false)
        → (b && list_all (same_entry x) es) ≡ false
        → (length (if not b then e ∷ removed es x else removed es x) == 0) ≡ false
    by true r t = r t
    by false r t = not_none e (removed es x)

pub distinct-filter : (p : PhysEntry → Bool) (es : List PhysEntry) → IsDistinct same_entry es
    → IsDistinct same_entry (filter p es)
unfolding IsDistinct
distinct-filter p [] d = tt
distinct-filter p (e ∷ es) d = by (p e) (distinct-filter p es d.1)
  where
    by : (b : Bool) → IsDistinct same_entry (filter p es)
        → IsDistinct same_entry (if b then e ∷ filter p es else filter p es)
    by true r = (all-filter (λ (y : PhysEntry). same_entry e y ≡ false) p es d.0, r)
    by false r = r

-- of candidates that are all one each is that one
only_same : (es : List PhysEntry) (x e : PhysEntry) → list_all (same_entry x) es ≡ true → stands_in es e ≡ true
    → same_entry e x ≡ true
only_same [] x e o t = cc
only_same (d ∷ ds) x e o t =
    let s = split_and (same_entry x d) (list_all (same_entry x) ds) o in
    by (same_entry e d) refl (λ r. only_same ds x e s.1 r) s.0 t
  where
    by : (b : Bool) → same_entry e d ≡ b → (stands_in ds e ≡ true → same_entry e x ≡ true) → same_entry x d ≡ true
        → (b || stands_in ds e) ≡ true → same_entry e x ≡ true
    by true u r v w = (entry_decides e x).1 ((entry_decides e d).0 u ∙ sym ((entry_decides x d).0 v))
    by false u r v w = r w

pub any-buckets : (bs : List (Key × BucketOf)) (e : PhysEntry)
    → stands_in (in_buckets bs) e ≡ list_any (λ (c : Key × BucketOf). stands_in c.1.entries e) bs
any-buckets [] e = refl
any-buckets (b ∷ bs) e = stands-append b.1.entries (in_buckets bs) e
    ∙ ap (λ t. stands_in b.1.entries e || t) (any-buckets bs e)

drop_one : (all own rest x : Bool) → all ≡ (own || rest) → (own ≡ true → x ≡ true) → (x ≡ true → rest ≡ false)
    → rest ≡ (all && not x)
drop_one all own rest true e f g = g refl ∙ sym (and-false all)
drop_one all true rest false e f g = let t = f refl in cc
drop_one all false rest false e f g = sym e ∙ sym (and-true all)

-- one entry less at a place
pub stands_set_removed : (bs : List (Key × BucketOf)) (i : ℕ) (old new : BucketOf) (x e : PhysEntry) → AreBuckets bs
    → slice_get (values_of bs) i ≡ Some old → position (one_key (key_of x)) (keys_of bs) ≡ Some i
    → new ≡ record old { entries = removed old.entries x }
    → stands_in (in_buckets (set_value_at bs i new)) e ≡ (stands_in (in_buckets bs) e && not (same_entry e x))
stands_set_removed bs i old new x e a v p n =
    let o = own_key (keys_of bs) i (key_of x) p in
    split_set bs i old new e v
    ∙ (ap (λ (b : BucketOf). stands_in b.entries e || in_others bs i e) n
    ∙ (ap (λ t. t || in_others bs i e) (stands-removed old.entries x e)
    ∙ (without_one (stands_in old.entries e) (same_entry e x) (in_others bs i e)
    (λ t. others_none bs i (key_of x) (key_of x) e a o.0 (o.1 ∙ ap key_of (sym ((entry_decides e x).0 t))))
    ∙ ap (λ t. t && not (same_entry e x)) (sym (split_old bs i old e v)))))

pub buckets_removed : (bs : List (Key × BucketOf)) (i : ℕ) (old new : BucketOf) (x : PhysEntry) → AreBuckets bs
    → slice_get (values_of bs) i ≡ Some old
    → IfSome (slice_get (values_of bs) i) (λ (b : BucketOf). list_all (same_entry x) b.entries ≡ false)
    → new ≡ record old { entries = removed old.entries x } → AreBuckets (set_value_at bs i new)
buckets_removed bs i old new x a v m n =
    let more : list_all (same_entry x) old.entries ≡ false =
    subst (λ o. IfSome o (λ (b : BucketOf). list_all (same_entry x) b.entries ≡ false)) v m in
    buckets_set bs i (key_of x) old new a v (λ b.
    let is : IsBucket (get_or (keys_of bs) i (key_of x), record old { entries = removed old.entries x }) = record {
      some = left_some old.entries x more;
      of_key = All-filter (λ (d : PhysEntry). not (same_entry x d))
          (λ (e : PhysEntry). key_of e ≡ get_or (keys_of bs) i (key_of x)) old.entries b.of_key;
      once = distinct-filter (λ (d : PhysEntry). not (same_entry x d)) old.entries b.once;
    } in
    subst (λ (z : BucketOf). IsBucket (get_or (keys_of bs) i (key_of x), z)) (sym n) is)

-- without a bucket whose candidates are one alone
pub stands_dropped : (bs : List (Key × BucketOf)) (i : ℕ) (b : Key × BucketOf) (x e : PhysEntry)
    → slice_get bs i ≡ Some b → AreBuckets bs → key_of x ≡ b.0 → list_all (same_entry x) b.1.entries ≡ true
    → stands_in (in_buckets (swap_remove bs i b)) e ≡ (stands_in (in_buckets bs) e && not (same_entry e x))
stands_dropped bs i b x e v a k only =
    let moved = IsPermutation-swap_remove bs i b (slice_get_within bs i b v) (sym (get_or_from_slice_get bs i b b v)) in
    let all = any-buckets bs e
    ∙ (list_any-IsPermutation (λ (c : Key × BucketOf). stands_in c.1.entries e) bs (b ∷ swap_remove bs i b) moved
    ∙ ap (λ t. stands_in b.1.entries e || t) (sym (any-buckets (swap_remove bs i b) e))) in
    let d = buckets_dropped bs i b v a in
    drop_one (stands_in (in_buckets bs) e) (stands_in b.1.entries e) (stands_in (in_buckets (swap_remove bs i b)) e)
    (same_entry e x) all
    (λ t. only_same b.1.entries x e only t)
    (λ t. others_none (b ∷ swap_remove bs i b) 0 b.0 b.0 e d (omega arith)
    (sym k ∙ ap key_of (sym ((entry_decides e x).0 t))))

-- the key at a place stands at none before
pub not_before : (bs : List (Key × BucketOf)) (i : ℕ) (b : Key × BucketOf) → IsDistinct one_key (keys_of bs)
    → slice_get bs i ≡ Some b → lookup (one_key b.0) (take i bs) ≡ None
unfolding IsDistinct
not_before [] i b d v = absurd (cc)
not_before (c ∷ bs) zero b d v = refl
not_before (c ∷ bs) (suc i) b d v =
    ap (λ t. cond t (Some c.1) (lookup (one_key b.0) (take i bs))) (key-flip b.0 c.0 ∙ at bs i d.0 v)
    ∙ not_before bs i b d.1 v
  where
    at : (cs : List (Key × BucketOf)) (j : ℕ) → AllByRecursion (λ m. one_key c.0 m ≡ false) (keys_of cs)
        → slice_get cs j ≡ Some b → one_key c.0 b.0 ≡ false
    at [] j n w = absurd (cc)
    at (e ∷ cs) zero n w = let s : e ≡ b = cc in subst (λ (z : Key × BucketOf). one_key c.0 z.0 ≡ false) s n.0
    at (e ∷ cs) (suc j) n w = at cs j n.1 w

-- one more from the front
pub taken_more : {X : Type 0} (xs : List X) (i : ℕ) (x : X) → slice_get xs i ≡ Some x
    → take (i + 1) xs ≡ take i xs ++ x ∷ []
taken_more xs i x v = take_pushed xs i x (slice_get_within xs i x v) (sym (get_or_from_slice_get xs i x x v))

-- what stands at a place, by the key and by the value
pub value_at : (bs : List (Key × BucketOf)) (i : ℕ) (b : Key × BucketOf) (v : BucketOf) → slice_get bs i ≡ Some b
    → slice_get (values_of bs) i ≡ Some v → v ≡ b.1
value_at [] i b v e f = absurd (cc)
value_at (c ∷ bs) zero b v e f = let s : c ≡ b = cc in let t : c.1 ≡ v = cc in sym t
    ∙ ap (λ (z : Key × BucketOf). z.1) s
value_at (c ∷ bs) (suc i) b v e f = value_at bs i b v e f

pub no_value : (bs : List (Key × BucketOf)) (i : ℕ) (v : BucketOf) → slice_get bs i ≡ None
    → slice_get (values_of bs) i ≡ Some v → ⊥
no_value [] i v e f = cc
no_value (c ∷ bs) zero v e f = cc
no_value (c ∷ bs) (suc i) v e f = no_value bs i v e f

key_got : (bs : List (Key × BucketOf)) (i : ℕ) (b : Key × BucketOf) (d : Key) → slice_get bs i ≡ Some b
    → get_or (keys_of bs) i d ≡ b.0
key_got [] i b d e = absurd (cc)
key_got (c ∷ bs) zero b d e = let s : c ≡ b = cc in ap (λ (z : Key × BucketOf). z.0) s
key_got (c ∷ bs) (suc i) b d e = key_got bs i b d e

pub own_bucket : (bs : List (Key × BucketOf)) (i : ℕ) (b : Key × BucketOf) (x : PhysEntry) → slice_get bs i ≡ Some b
    → position (one_key (key_of x)) (keys_of bs) ≡ Some i → key_of x ≡ b.0
own_bucket bs i b x v p = sym (own_key (keys_of bs) i (key_of x) p).1 ∙ key_got bs i b (key_of x) v

pub dropped_buckets : (bs : List (Key × BucketOf)) (i : ℕ) (b : Key × BucketOf) → slice_get bs i ≡ Some b
    → AreBuckets bs → AreBuckets (swap_remove bs i b)
dropped_buckets bs i b v a =
    let d = buckets_dropped bs i b v a in
    record {
      each = All-tail IsBucket b (swap_remove bs i b) d.each;
      once = IsDistinct-tail one_key b.0 (keys_of (swap_remove bs i b)) d.once;
    }

distinct-none : {X : Type 0} (e : X → X → Bool) → IsDistinct e []
unfolding IsDistinct
distinct-none e = tt

-- one bucket more
pub buckets_pushed : (bs : List (Key × BucketOf)) (k : Key) (id : ℕ) (x : PhysEntry) → AreBuckets bs → key_of x ≡ k
    → IsDistinct one_key (keys_of (bs ++ (k, record { id = id; entries = x ∷ [] }) ∷ []))
    → AreBuckets (bs ++ (k, record { id = id; entries = x ∷ [] }) ∷ [])
buckets_pushed bs k id x a e d = record {
  each = All-push IsBucket bs (k, record { id = id; entries = x ∷ [] }) a.each (record {
    some = not_none x [];
    of_key = All-cons (λ (y : PhysEntry). key_of y ≡ k) x [] e (All-nil (λ (y : PhysEntry). key_of y ≡ k));
    once = IsDistinct-cons same_entry x [] tt (distinct-none same_entry);
  });
  once = d;
}

pub stands_pushed : (bs : List (Key × BucketOf)) (k : Key) (id : ℕ) (x e : PhysEntry)
    → stands_in (in_buckets (bs ++ (k, record { id = id; entries = x ∷ [] }) ∷ [])) e
    ≡ (stands_in (in_buckets bs) e || same_entry e x)
stands_pushed [] k id x e = or-false (same_entry e x)
stands_pushed (b ∷ bs) k id x e =
    stands-append b.1.entries (in_buckets (bs ++ (k, record { id = id; entries = x ∷ [] }) ∷ [])) e
    ∙ (ap (λ t. stands_in b.1.entries e || t) (stands_pushed bs k id x e)
    ∙ (sym (or_assoc (stands_in b.1.entries e) (stands_in (in_buckets bs) e) (same_entry e x))
    ∙ ap (λ t. t || same_entry e x) (sym (stands-append b.1.entries (in_buckets bs) e))))
  where
    or_assoc : (p q r : Bool) → ((p || q) || r) ≡ (p || (q || r))
    or_assoc true q r = refl
    or_assoc false q r = refl

-- within a list something stands at each place
pub no_item : {X : Type 0} (xs : List X) (i : ℕ) → i < length xs → slice_get xs i ≡ None → ⊥
no_item [] i h e = omega arith
no_item (x ∷ xs) zero h e = cc
no_item (x ∷ xs) (suc i) h e = no_item xs i (omega arith) e
