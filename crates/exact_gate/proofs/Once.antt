-- Entries that stand once.
use Rattle.std.proofs.Common.{◌≡◌, true, false, List, [], ◌∷◌, ◌++◌, map, refl, sym, ap, subst, ◌∙◌}
use Rattle.std.specs.Prelude.{flat_map}
use Rattle.std.specs.List.{All, AllByRecursion, IsDistinct}
use Rattle.std.proofs.lemmas.List.Elements.{All-filter, All-weaker, filter_passes, recursion_from_All}
use Rattle.switch_meaning.specs.Keys.{passing}
use Rattle.switch_meaning.specs.Same.{same_entry}
use Rattle.switch_meaning.specs.declared.entry.PhysEntry.{PhysEntry}
use Rattle.switch_meaning.proofs.Alike.{entry_decides}
use Rattle.switch_meaning.proofs.Items.{fails}
use Rattle.exact_gate.specs.InsideBuckets.{AreBuckets, BucketOf, IsBucket, in_buckets}
use Rattle.exact_gate.specs.InsideChanges.{come_of, left_of, touched_of}
use Rattle.exact_gate.specs.Standing.{key_of, one_key, standing}
use Rattle.exact_gate.specs.declared.delta.Touched.{Touched}
use Rattle.exact_gate.specs.declared.key.Key.{Key}
use Rattle.exact_gate.proofs.Bucketed.{distinct-filter}
use Rattle.exact_gate.proofs.Changing.{between, come-is, left-is}
use Rattle.exact_gate.proofs.Standing.{key_decides}

-- the entries of two keys are others
apart_keys : (k l : Key) (d e : PhysEntry) → one_key k l ≡ false → key_of d ≡ k → key_of e ≡ l
    → same_entry d e ≡ false
apart_keys k l d e n f g =
    fails (same_entry d e) (λ t. let s = (key_decides k l).1 (sym f ∙ (ap key_of ((entry_decides d e).0 t) ∙ g)) in cc)

-- one list after another
distinct-append : (xs ys : List PhysEntry) → IsDistinct same_entry xs → IsDistinct same_entry ys
    → AllByRecursion (λ x. AllByRecursion (λ y. same_entry x y ≡ false) ys) xs → IsDistinct same_entry (xs ++ ys)
unfolding IsDistinct
distinct-append [] ys d e a = e
distinct-append (x ∷ xs) ys d e a = (both xs ys d.0 a.0, distinct-append xs ys d.1 e a.1)
  where
    both : (us vs : List PhysEntry) → AllByRecursion (λ y. same_entry x y ≡ false) us
        → AllByRecursion (λ y. same_entry x y ≡ false) vs → AllByRecursion (λ y. same_entry x y ≡ false) (us ++ vs)
    both [] vs f g = g
    both (u ∷ us) vs f g = (f.0, both us vs f.1 g)

-- lists of entries, each of a key of its own
module _ {A : Type 0} (f : A → List PhysEntry) (key : A → Key) where
  pub record IsKeyed (a : A) : Type 0 where
    pub once : IsDistinct same_entry (f a)
    pub of_key : AllByRecursion (λ e. key_of e ≡ key a) (f a)

  apart_one : (k : Key) (d : PhysEntry) → key_of d ≡ k → (rows : List A) → AllByRecursion IsKeyed rows
      → AllByRecursion (λ l. one_key k l ≡ false) (map key rows)
      → AllByRecursion (λ e. same_entry d e ≡ false) (flat_map f rows)
  apart_one k d g [] a n = tt
  apart_one k d g (x ∷ rows) a n = both (f x) (flat_map f rows) (here (f x) (a.0).of_key) (apart_one k d g rows a.1 n.1)
    where
      here : (es : List PhysEntry) → AllByRecursion (λ e. key_of e ≡ key x) es
          → AllByRecursion (λ e. same_entry d e ≡ false) es
      here [] o = tt
      here (e ∷ es) o = (apart_keys k (key x) d e n.0 g o.0, here es o.1)

      both : (us vs : List PhysEntry) → AllByRecursion (λ e. same_entry d e ≡ false) us
          → AllByRecursion (λ e. same_entry d e ≡ false) vs → AllByRecursion (λ e. same_entry d e ≡ false) (us ++ vs)
      both [] vs o p = p
      both (u ∷ us) vs o p = (o.0, both us vs o.1 p)

  pub keyed-distinct : (rows : List A) → AllByRecursion IsKeyed rows → IsDistinct one_key (map key rows)
      → IsDistinct same_entry (flat_map f rows)
  unfolding IsDistinct
  keyed-distinct [] a d = tt
  keyed-distinct (x ∷ rows) a d = distinct-append (f x) (flat_map f rows) (a.0).once (keyed-distinct rows a.1 d.1)
      (each (f x) (a.0).of_key)
    where
      each : (es : List PhysEntry) → AllByRecursion (λ e. key_of e ≡ key x) es
          → AllByRecursion (λ e. AllByRecursion (λ y. same_entry e y ≡ false) (flat_map f rows)) es
      each [] o = tt
      each (e ∷ es) o = (apart_one (key x) e o.0 rows a.1 d.0, each es o.1)

-- the candidates of buckets
pub buckets-once : (bs : List (Key × BucketOf)) → AreBuckets bs → IsDistinct same_entry (in_buckets bs)
buckets-once bs a = keyed-distinct (λ (b : Key × BucketOf). b.1.entries) (λ (b : Key × BucketOf). b.0) bs
    (all bs (recursion_from_All IsBucket bs a.each)) a.once
  where
    all : (cs : List (Key × BucketOf)) → AllByRecursion IsBucket cs
        → AllByRecursion (IsKeyed (λ (b : Key × BucketOf). b.1.entries) (λ (b : Key × BucketOf). b.0)) cs
    all [] i = tt
    all (c ∷ cs) i = (
      record {
        once = (i.0).once;
        of_key = recursion_from_All (λ (e : PhysEntry). key_of e ≡ c.0) c.1.entries (i.0).of_key;
      },
      all cs i.1,
    )

-- what passes among the first and not among the second
between-keyed : (p q : List PhysEntry) (k : Key) → IsDistinct same_entry p → IsKeyed (between p q) (λ (l : Key). l) k
between-keyed p q k d = record {
  once = distinct-filter _ (standing p k) (distinct-filter _ (passing p) (distinct-filter _ p d));
  of_key = recursion_from_All (λ e. key_of e ≡ k) (between p q k)
      (All-filter _ (λ e. key_of e ≡ k) (standing p k)
      (keys (filter_passes (λ (e : PhysEntry). one_key k (key_of e)) (passing p))));
}
  where
    keys : All (λ (e : PhysEntry). one_key k (key_of e) ≡ true) (standing p k)
        → All (λ (e : PhysEntry). key_of e ≡ k) (standing p k)
    keys a = All-weaker (λ (e : PhysEntry). one_key k (key_of e) ≡ true) (λ (e : PhysEntry). key_of e ≡ k)
        (λ e t. sym ((key_decides k (key_of e)).0 t)) (standing p k) a

map-same : (ks : List Key) → map (λ (l : Key). l) ks ≡ ks
map-same [] = refl
map-same (k ∷ ks) = ap (λ xs. k ∷ xs) (map-same ks)

all-keys : (P : Key → Type 0) (ks : List Key) → ((k : Key) → P k) → AllByRecursion P ks
all-keys P [] f = tt
all-keys P (k ∷ ks) f = (f k, all-keys P ks f)

between-once : (p q : List PhysEntry) (keys : List Key) → IsDistinct same_entry p → IsDistinct one_key keys
    → IsDistinct same_entry (flat_map (between p q) keys)
between-once p q keys d o =
    let D : List Key → Type 0 = IsDistinct one_key in
    keyed-distinct (between p q) (λ (l : Key). l) keys
    (all-keys (IsKeyed (between p q) (λ (l : Key). l)) keys (λ k. between-keyed p q k d))
    (subst D (sym (map-same keys)) o)

module _ (old new : List PhysEntry) (keys : List Key) (touched : List Touched)
    (is : touched ≡ map (touched_of old) keys) (once : IsDistinct one_key keys) where
  pub left-once : IsDistinct same_entry old → IsDistinct same_entry (flat_map (left_of new) touched)
  left-once d =
      let D : List PhysEntry → Type 0 = IsDistinct same_entry in
      subst D (sym (ap (flat_map (left_of new)) is ∙ left-is old new keys)) (between-once old new keys d once)

  pub come-once : IsDistinct same_entry new → IsDistinct same_entry (flat_map (come_of new) touched)
  come-once d =
      let D : List PhysEntry → Type 0 = IsDistinct same_entry in
      subst D (sym (ap (flat_map (come_of new)) is ∙ come-is old new keys)) (between-once new old keys d once)
