-- What is installed, and what is written, of entries in another order.
use Rattle.std.proofs.Common.{◌≡◌, ℕ, Bool, true, false, ◌&&◌, List, [], ◌∷◌, refl, ap, ◌∙◌, sym, eqb-true, eq-eqb}
use Rattle.std.specs.Prelude.{◌==◌, filter, if◌then◌else◌, IsPermutation, not}
use Rattle.std.specs.Cmp.{both_ways}
use Rattle.std.specs.Cmp.Lexicographic.{pointwise}
use Rattle.std.specs.List.{AllByRecursion, IsDistinct, list_any}
use Rattle.std.specs.Ordering.{is_le, nat_cmp, ordering_reverse}
use Rattle.std.specs.declared.cmp.Ordering.{Ordering}
use Rattle.std.specs.declared.cmp.Ordering.TheVariants.{Equal, Greater, Less}
use Rattle.std.proofs.lemmas.List.Sorted.{IsPermutation-sym}
use Rattle.std.proofs.lemmas.Map.Keys.{IsDistinct-IsPermutation}
use Rattle.cv_io.specs.Leaves.{same_leaf}
use Rattle.cv_io.specs.declared.leaf.Leaf.{Leaf}
use Rattle.of10_match.specs.Order.{by_bytes}
use Rattle.of10_match.specs.Ranges.{IsMatch}
use Rattle.of10_match.specs.Same.{same_match}
use Rattle.of10_match.proofs.ByteOrder.{by_bytes-equal}
use Rattle.of10_match.proofs.Same.{match_decides}
use Rattle.policy_meaning.specs.LeafFact.{EachPair}
use Rattle.policy_meaning.proofs.Booleans.{join_and}
use Rattle.policy_meaning.proofs.Listings.{both-equal, number-is}
use Rattle.policy_meaning.proofs.Lists.{all-map, all-zip}
use Rattle.policy_meaning.proofs.Rising.{Differs, Same, all-permuted, unique}
use Rattle.switch_meaning.specs.BatchLaw.{HasOneAKey}
use Rattle.switch_meaning.specs.Batches.{by_key, key_cmp, missing, put_by_key}
use Rattle.switch_meaning.specs.Keys.{displaces, passes_over, passing, same_key}
use Rattle.switch_meaning.specs.Same.{same_entry}
use Rattle.switch_meaning.specs.declared.entry.PhysEntry.{PhysEntry}
use Rattle.switch_meaning.proofs.Batched.{by_key-permutes, key-flips, key-self}
use Rattle.switch_meaning.proofs.ByKey.{key_total}
use Rattle.switch_meaning.proofs.Items.{all-filter}
use Rattle.switch_meaning.proofs.Members.{IsIn, any-passes, distinct-filter, filter-in, in-filter, in-permuted}
use Rattle.switch_meaning.proofs.Members.{passes-any, same-items}
use Rattle.agreement.specs.FreeOrder.{BatchIsTheSame, HaveMatches, InstalledIsPermuted}

-- whether some item passes hangs on the items alone
any-permuted : {A : Type 0} (p : A → Bool) (xs ys : List A) → IsPermutation xs ys → list_any p xs ≡ list_any p ys
any-permuted p xs ys m =
    both_ways (list_any p xs) (list_any p ys)
    (λ t. let q = any-passes p xs t in passes-any p (in-permuted xs ys q.item m q.stands) q.passes)
    (λ t. let q = any-passes p ys t in passes-any p (in-permuted ys xs q.item (IsPermutation-sym xs ys m) q.stands)
    q.passes)

-- entries that are twins, as a test
abbrev are_twins : PhysEntry → PhysEntry → Bool
are_twins d e = same_key d e && pointwise same_leaf d.ancestry e.ancestry

leaf-self : (a : Leaf) → same_leaf a a ≡ true
leaf-self a = rw (eq-eqb a.member a.member refl, eq-eqb a.kind a.kind refl) refl

leaves-self : (xs : List Leaf) → pointwise same_leaf xs xs ≡ true
leaves-self [] = refl
leaves-self (x ∷ xs) = join_and (same_leaf x x) (pointwise same_leaf xs xs) (leaf-self x) (leaves-self xs)

number-flips : (a b : ℕ) → (a == b) ≡ (b == a)
number-flips a b = both_ways (a == b) (b == a) (λ t. eq-eqb b a (sym (eqb-true a b t)))
    (λ t. eq-eqb a b (sym (eqb-true b a t)))

leaves-flip : (xs ys : List Leaf) → pointwise same_leaf xs ys ≡ pointwise same_leaf ys xs
leaves-flip [] [] = refl
leaves-flip [] (y ∷ ys) = refl
leaves-flip (x ∷ xs) [] = refl
leaves-flip (x ∷ xs) (y ∷ ys) = λ i. (number-flips x.member y.member i && number-flips x.kind y.kind i) && leaves-flip
    xs ys i

twins-self : (e : PhysEntry) → are_twins e e ≡ true
twins-self e = join_and (same_key e e) (pointwise same_leaf e.ancestry e.ancestry) (key-self e) (leaves-self e.ancestry)

twins-flip : (d e : PhysEntry) → are_twins d e ≡ are_twins e d
twins-flip d e = λ i. key-flips d e i && leaves-flip d.ancestry e.ancestry i

-- what is left of entries that a test keeps, which hangs on the others
module _ (over : PhysEntry → PhysEntry → Bool) where
  abbrev left : List PhysEntry → List PhysEntry
  left xs = filter (λ (e : PhysEntry). not (list_any (λ (d : PhysEntry). over d e) xs)) xs

  left-in : (xs ys : List PhysEntry) → IsPermutation xs ys → (e : PhysEntry) → IsIn e (left xs) → IsIn e (left ys)
  left-in xs ys m e i =
      let f = filter-in (λ (e : PhysEntry). not (list_any (λ (d : PhysEntry). over d e) xs)) e xs i in
      in-filter (λ (e : PhysEntry). not (list_any (λ (d : PhysEntry). over d e) ys)) (in-permuted xs ys e m f.0)
      (ap not (sym (any-permuted (λ (d : PhysEntry). over d e) xs ys m)) ∙ f.1)

  left-distinct : (xs : List PhysEntry) → IsDistinct are_twins xs → IsDistinct are_twins (left xs)
  left-distinct xs d = distinct-filter are_twins (λ (e : PhysEntry). not (list_any (λ (d : PhysEntry). over d e) xs)) xs
      d

  left-permuted : (xs ys : List PhysEntry) → IsDistinct are_twins xs → IsPermutation xs ys
      → IsPermutation (left xs) (left ys)
  left-permuted xs ys d m =
      same-items are_twins twins-self twins-flip (left xs) (left ys) (left-distinct xs d)
      (left-distinct ys (IsDistinct-IsPermutation are_twins twins-flip xs ys m d))
      (λ e i. left-in xs ys m e i) (λ e i. left-in ys xs (IsPermutation-sym xs ys m) e i)

pub installed-is-permuted : InstalledIsPermuted
installed-is-permuted entries others none m =
    left-permuted displaces (passing entries) (passing others) (left-distinct passes_over entries none)
    (left-permuted passes_over entries others none m)

-- batches

keys-differ : (d e : PhysEntry) → same_key d e ≡ false → IsMatch d.m → IsMatch e.m → Differs key_cmp key_total d e
keys-differ d e ne p q c =
    let s = both-equal (nat_cmp d.priority e.priority) (by_bytes d.m e.m) c in
    let same : same_match d.m e.m ≡ true = (match_decides d.m e.m).1 (by_bytes-equal d.m e.m p q s.1) in
    let t : same_key d e ≡ true = join_and (same_match d.m e.m) (d.priority == e.priority) same
    (eq-eqb d.priority e.priority (number-is d.priority e.priority s.0)) in cc

all-differ : (es : List PhysEntry) → IsDistinct same_key es → HaveMatches es → EachPair (Differs key_cmp key_total) es
unfolding IsDistinct
all-differ [] d m = tt
all-differ (e ∷ es) d m = (
  all-map (λ (x : PhysEntry). (same_key e x ≡ false) × IsMatch x.m) (Differs key_cmp key_total e) es
      (λ x q. keys-differ e x q.0 m.0 q.1)
      (all-zip (λ (x : PhysEntry). same_key e x ≡ false) (λ (x : PhysEntry). IsMatch x.m) es d.0 m.1),
  all-differ es d.1 m.1,
)

-- sorting by key rises

less : (r : Ordering) → is_le r ≡ true → (r ≡ Equal → ⊥) → r ≡ Less
less Less e n = refl
less Equal e n = absurd (n refl)
less Greater e n = cc

more : (r : Ordering) → is_le r ≡ false → r ≡ Greater
more Less e = cc
more Equal e = cc
more Greater e = refl

abbrev Up : PhysEntry → PhysEntry → Type 0
Up d e = key_cmp d e ≡ Less

put-all : (P : PhysEntry → Type 0) (e : PhysEntry) (ds : List PhysEntry) → P e → AllByRecursion P ds
    → AllByRecursion P (put_by_key e ds)
put-all P e [] p a = (p, tt)
put-all P e (d ∷ ds) p a = by (is_le (key_cmp e d)) (put-all P e ds p a.1)
  where
    by : (b : Bool) → AllByRecursion P (put_by_key e ds)
        → AllByRecursion P (if b then e ∷ d ∷ ds else d ∷ put_by_key e ds)
    by true rest = (p, a)
    by false rest = (a.0, rest)

put-up : (e : PhysEntry) (ds : List PhysEntry) → AllByRecursion (Differs key_cmp key_total e) ds → EachPair Up ds
    → EachPair Up (put_by_key e ds)
put-up e [] n p = (tt, tt)
put-up e (d ∷ ds) n p = by (is_le (key_cmp e d)) refl (put-up e ds n.1 p.1)
  where
    by : (b : Bool) → is_le (key_cmp e d) ≡ b → EachPair Up (put_by_key e ds)
        → EachPair Up (if b then e ∷ d ∷ ds else d ∷ put_by_key e ds)
    by true t rest = let low : Up e d = less (key_cmp e d) t n.0 in
        ((low, all-map (Up d) (Up e) ds (λ z up. key_total.trans e d z low up) p.0), p)
    by false t rest = let up : Up d e = key_total.antisymm d e
        ∙ ap ordering_reverse (more (key_cmp e d) t) in (put-all (Up d) e ds up p.0, rest)

by_key-up : (es : List PhysEntry) → EachPair (Differs key_cmp key_total) es → EachPair Up (by_key es)
by_key-up [] d = tt
by_key-up (e ∷ es) d =
    put-up e (by_key es) (all-permuted es (by_key es) (by_key-permutes es) (Differs key_cmp key_total e) d.0)
    (by_key-up es d.1)

-- what is missing of one table in another, each in another order
kept-by : (P : PhysEntry → Type 0) (b : Bool) (x : PhysEntry) (xs : List PhysEntry)
    → AllByRecursion P (if b then x ∷ xs else xs) → (b ≡ true → P x) × AllByRecursion P xs
kept-by P true x xs a = (λ _. a.0, a.1)
kept-by P false x xs a = (λ e. cc, a)

from-filter : (P : PhysEntry → Type 0) (t : PhysEntry → Bool) (xs : List PhysEntry) → AllByRecursion P (filter t xs)
    → AllByRecursion (λ x. t x ≡ true → P x) xs
from-filter P t [] a = tt
from-filter P t (x ∷ xs) a = let k = kept-by P (t x) x (filter t xs) a in (k.0, from-filter P t xs k.1)

to-by : (P : PhysEntry → Type 0) (b : Bool) (x : PhysEntry) (xs : List PhysEntry) → (b ≡ true → P x)
    → AllByRecursion P xs → AllByRecursion P (if b then x ∷ xs else xs)
to-by P true x xs f a = (f refl, a)
to-by P false x xs f a = a

to-filter : (P : PhysEntry → Type 0) (t : PhysEntry → Bool) (xs : List PhysEntry)
    → AllByRecursion (λ x. t x ≡ true → P x) xs → AllByRecursion P (filter t xs)
to-filter P t [] a = tt
to-filter P t (x ∷ xs) a = to-by P (t x) x (filter t xs) a.0 (to-filter P t xs a.1)

missing-same : (other next table first : List PhysEntry) → IsPermutation other next → IsPermutation table first
    → Same key_cmp key_total (missing other table) (missing next first)
missing-same other next table first m n P a =
    let test = λ (es : List PhysEntry). λ (e : PhysEntry). not (list_any (λ (d : PhysEntry). same_entry d e) es) in
    to-filter P (test next) first
    (all-map (λ e. test other e ≡ true → P e) (λ e. test next e ≡ true
    → P e) first (λ e f t. f (ap not (any-permuted (λ (d : PhysEntry). same_entry d e) other next m) ∙ t))
    (all-permuted table first n (λ e. test other e ≡ true → P e) (from-filter P (test other) table a)))

sorted-same : (xs ys : List PhysEntry) → Same key_cmp key_total xs ys → Same key_cmp key_total (by_key xs) (by_key ys)
sorted-same xs ys f P a =
    all-permuted ys (by_key ys) (by_key-permutes ys) P
    (f P (all-permuted (by_key xs) xs (IsPermutation-sym xs (by_key xs) (by_key-permutes xs)) P a))

missing-differ : (other table : List PhysEntry) → HasOneAKey table → HaveMatches table
    → EachPair (Differs key_cmp key_total) (missing other table)
missing-differ other table one matches =
    let test = λ (e : PhysEntry). not (list_any (λ (d : PhysEntry). same_entry d e) other) in
    all-differ (filter test table) (distinct-filter same_key test table one)
    (all-filter (λ (e : PhysEntry). IsMatch e.m) test table matches)

one-phase : (other next table first : List PhysEntry) → HasOneAKey table → HaveMatches table → IsPermutation other next
    → IsPermutation table first → by_key (missing other table) ≡ by_key (missing next first)
one-phase other next table first one matches m n =
    let one' : HasOneAKey first = IsDistinct-IsPermutation same_key key-flips table first n one in
    let matches' : HaveMatches first = all-permuted table first n (λ (e : PhysEntry). IsMatch e.m) matches in
    unique key_cmp key_total (by_key (missing other table)) (by_key (missing next first))
    (by_key-up (missing other table) (missing-differ other table one matches))
    (by_key-up (missing next first) (missing-differ next first one' matches'))
    (sorted-same (missing other table) (missing next first) (missing-same other next table first m n))
    (sorted-same (missing next first) (missing other table)
    (missing-same next other first table (IsPermutation-sym other next m) (IsPermutation-sym table first n)))

pub batch-is-the-same : BatchIsTheSame
batch-is-the-same before after first next one_before one_after match_before match_after m n =
    let d = one-phase after next before first one_before match_before n m in
    let a = one-phase before first after next one_after match_after m n in
    λ i. record { deletes = d i; adds = a i }
