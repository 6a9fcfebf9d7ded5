-- Keys in indexes.
use Rattle.std.proofs.Common.{◌≡◌, ℕ, ◌<◌, ◌≤◌, Bool, true, false, cond, ◌&&◌, ◌||◌, List, [], ◌∷◌, ◌++◌, map, filter}
use Rattle.std.proofs.Common.{find, Some, None, refl, sym, ap, subst, ◌∙◌, arith, count_by, eq-eqb, eqb-true, ltb-false}
use Rattle.std.proofs.Common.{lt-ltb}
use Rattle.std.specs.Prelude.{◌==◌, IsPermutation, flat_map, nat_lt, option_to_list}
use Rattle.std.specs.List.{IsDistinct, list_any}
use Rattle.std.specs.Option.{option_and_then}
use Rattle.std.proofs.lemmas.Bool.{ltb-true}
use Rattle.of10_match.specs.Matching.{covers, holds, is_one_header}
use Rattle.match_index.specs.Items.{AddsTo, IsFirst, has_id, ids_of, is_before, same_item}
use Rattle.match_index.specs.Questions.{is_covered, is_holding}
use Rattle.match_index.specs.declared.item.Item.{Item}
use Rattle.match_index.proofs.Counts.{count-append, count-cons, count-permuted, item_decides, one, same_any}
use Rattle.switch_meaning.proofs.Items.{fails, join_and, split_and}
use Rattle.switch_meaning.proofs.Members.{IsIn, any-passes, filter-in, in-all, in-filter, in-left, in-permuted}
use Rattle.switch_meaning.proofs.Members.{in-right, passes-any, there, here}
use Rattle.exact_gate.specs.Finding.{Reaches, is_over, key_found, key_of_item, keys_found, lower_key}
use Rattle.exact_gate.specs.InsideBuckets.{AreExact, is_exact}
use Rattle.exact_gate.specs.InsideKeys.{header_of}
use Rattle.exact_gate.specs.Standing.{one_key}
use Rattle.exact_gate.specs.declared.key.Key.{Key}
use Rattle.exact_gate.proofs.Headers.{covers-is}
use Rattle.exact_gate.proofs.Standing.{bool-same, key-self}

pub item-in : (xs : List Item) (i : Item) → list_any (same_item i) xs ≡ true → IsIn i xs
item-in xs i t = let p = any-passes (same_item i) xs t in
    subst (λ (z : Item). IsIn z xs) (sym ((item_decides i p.item).0 p.passes)) p.stands

pub in-items : (xs : List Item) (i : Item) → IsIn i xs → list_any (same_item i) xs ≡ true
in-items xs i s = passes-any (same_item i) s ((item_decides i i).1 refl)

-- where no item holds the header none is over the key
module _ (k : Key) (items : List Item) where
  over-holds : (i : Item) → is_over k i ≡ true → holds i.normal (header_of k.m) ≡ true
  over-holds i t =
      let s = split_and (is_one_header k.m) (nat_lt k.priority i.rank && covers i.normal k.m) t in
      let u = split_and (nat_lt k.priority i.rank) (covers i.normal k.m) s.1 in
      sym (covers-is i.normal k.m s.0) ∙ u.1

  over-rank : (i : Item) → is_over k i ≡ true → k.priority < i.rank
  over-rank i t =
      let s = split_and (is_one_header k.m) (nat_lt k.priority i.rank && covers i.normal k.m) t in
      ltb-true k.priority i.rank (split_and (nat_lt k.priority i.rank) (covers i.normal k.m) s.1).0

  pub open-not_over : is_one_header k.m ≡ false → list_any (is_over k) items ≡ false
  open-not_over n =
      fails (list_any (is_over k) items) (λ t.
      let p = any-passes (is_over k) items t in
      let s = split_and (is_one_header k.m) (nat_lt k.priority p.item.rank && covers p.item.normal k.m) p.passes in cc)

  pub none-over : list_any (is_holding (header_of k.m)) items ≡ false → list_any (is_over k) items ≡ false
  none-over n =
      fails (list_any (is_over k) items) (λ t.
      let p = any-passes (is_over k) items t in
      let held = passes-any (is_holding (header_of k.m)) p.stands (over-holds p.item p.passes) in cc)

  -- nothing that holds the header has a higher rank than the first
  below-first : (first i : Item) → IsFirst (is_holding (header_of k.m)) items first → IsIn i items
      → holds i.normal (header_of k.m) ≡ true → i.rank ≤ first.rank
  below-first first i f s t =
      let test = λ (e : Item). is_holding (header_of k.m) e && is_before e first in
      ltb-false first.rank i.rank (fails (nat_lt first.rank i.rank) (λ lt.
      let ahead : is_before i first ≡ true = ap (λ b. b || ((i.rank == first.rank) && nat_lt i.id first.id)) lt in
      let some = passes-any test s (join_and (holds i.normal (header_of k.m)) (is_before i first) t ahead) in
      let none = f.none_before in cc))

  pub first-over : (first : Item) → is_one_header k.m ≡ true → IsFirst (is_holding (header_of k.m)) items first
      → nat_lt k.priority first.rank ≡ list_any (is_over k) items
  first-over first x f =
      bool-same (nat_lt k.priority first.rank) (list_any (is_over k) items)
      (λ lt. passes-any (is_over k) (item-in items first f.there)
      (join_and (is_one_header k.m) (nat_lt k.priority first.rank && covers first.normal k.m) x
      (join_and (nat_lt k.priority first.rank) (covers first.normal k.m) lt (covers-is first.normal k.m x ∙ f.passes))))
      (λ t.
      let p = any-passes (is_over k) items t in
      let low = over-rank p.item p.passes in
      let up = below-first first p.item f p.stands (over-holds p.item p.passes) in
      lt-ltb k.priority first.rank (omega arith))

-- of those that pass one test how many pass another
pub count-filter : (p q : Item → Bool) (xs : List Item) → count_by p (filter q xs) ≡ count_by (λ x. q x && p x) xs
count-filter p q [] = refl
count-filter p q (x ∷ xs) = by (q x) refl (count-filter p q xs)
  where
    by : (b : Bool) → q x ≡ b → count_by p (filter q xs) ≡ count_by (λ x. q x && p x) xs
        → count_by p (cond b (x ∷ filter q xs) (filter q xs)) ≡ count_by (λ x. q x && p x) (x ∷ xs)
    by true t e =
        let c = count-cons p x (filter q xs) in
        let d = count-cons (λ x. q x && p x) x xs in
        let s : one (q x && p x) ≡ one (p x) = ap (λ b. one (b && p x)) t in
        omega (arith, c, d, s, e)
    by false t e =
        let d = count-cons (λ x. q x && p x) x xs in
        let s : one (q x && p x) ≡ 0 = ap (λ b. one (b && p x)) t in
        omega (arith, d, s, e)

-- one key more
pub exact-pushed : (all exact : List Item) (i : Item) → AreExact all exact → is_exact i ≡ true
    → AreExact (all ++ i ∷ []) (exact ++ i ∷ [])
exact-pushed all exact i a x p =
    let both = λ (x : Item). is_exact x && p x in
    let h = a p in
    let c = count-append p exact (i ∷ []) in
    let c1 = count-cons p i [] in
    let d = count-filter p is_exact all in
    let d' = count-filter p is_exact (all ++ i ∷ []) in
    let e = count-append both all (i ∷ []) in
    let e1 = count-cons both i [] in
    let s : one (is_exact i && p i) ≡ one (p i) = ap (λ b. one (b && p i)) x in
    omega (arith, h, c, c1, d, d', e, e1, s)

pub open-pushed : (all exact : List Item) (i : Item) → AreExact all exact → is_exact i ≡ false
    → AreExact (all ++ i ∷ []) exact
open-pushed all exact i a x p =
    let both = λ (x : Item). is_exact x && p x in
    let h = a p in
    let d = count-filter p is_exact all in
    let d' = count-filter p is_exact (all ++ i ∷ []) in
    let e = count-append both all (i ∷ []) in
    let e1 = count-cons both i [] in
    let s : one (is_exact i && p i) ≡ 0 = ap (λ b. one (b && p i)) x in
    omega (arith, h, d, d', e, e1, s)

-- one key less
pub adds-removed : (xs ys : List Item) (i : Item) → IsPermutation xs (i ∷ ys) → AddsTo i ys xs
adds-removed xs ys i m p = let c = count-permuted p xs (i ∷ ys) m in let d = count-cons p i ys in omega (arith, c, d)

pub exact-removed : (all all' exact exact' : List Item) (i : Item) → AreExact all exact → AddsTo i all' all
    → AddsTo i exact' exact → is_exact i ≡ true → AreExact all' exact'
exact-removed all all' exact exact' i a m n x p =
    let both = λ (x : Item). is_exact x && p x in
    let h = a p in
    let d = count-filter p is_exact all in
    let d' = count-filter p is_exact all' in
    let e = m both in
    let f = n p in
    let s : one (is_exact i && p i) ≡ one (p i) = ap (λ b. one (b && p i)) x in
    omega (arith, h, d, d', e, f, s)

pub open-removed : (all all' exact : List Item) (i : Item) → AreExact all exact → AddsTo i all' all
    → is_exact i ≡ false → AreExact all' exact
open-removed all all' exact i a m x p =
    let both = λ (x : Item). is_exact x && p x in
    let h = a p in
    let d = count-filter p is_exact all in
    let d' = count-filter p is_exact all' in
    let e = m both in
    let s : one (is_exact i && p i) ≡ 0 = ap (λ b. one (b && p i)) x in
    omega (arith, h, d, d', e, s)

-- what is exact stands in both
pub in-exact : (all exact : List Item) (i : Item) → AreExact all exact → IsIn i all → is_exact i ≡ true → IsIn i exact
in-exact all exact i a s x = item-in exact i (same_any exact (filter is_exact all) a (same_item i)
    ∙ in-items (filter is_exact all) i (in-filter is_exact s x))

pub exact-in : (all exact : List Item) (test : Item → Bool) → AreExact all exact → list_any test all ≡ false
    → list_any test exact ≡ false
exact-in all exact test a n =
    same_any exact (filter is_exact all) a test
    ∙ fails (list_any test (filter is_exact all)) (λ t.
    let p = any-passes test (filter is_exact all) t in
    let some = passes-any test (filter-is p.item (p.stands)) p.passes in cc)
  where
    filter-is : (i : Item) → IsIn i (filter is_exact all) → IsIn i all
    filter-is i s = (filter-in is_exact i all s).0

-- an id finds its item, where no two have one
in-mapped : (f : Item → ℕ) {i : Item} {xs : List Item} → IsIn i xs → IsIn (f i) (map f xs)
in-mapped f here = here
in-mapped f (there s) = there (in-mapped f s)

pub find-its : (xs : List Item) (i : Item) → IsDistinct ◌==◌ (map (λ (e : Item). e.id) xs) → IsIn i xs
    → find (has_id i.id) xs ≡ Some i
unfolding IsDistinct
find-its [] i d s = elim s [ ]
find-its (x ∷ xs) i d here = ap (λ b. cond b (Some i) (find (has_id i.id) xs)) (eq-eqb i.id i.id refl)
find-its (x ∷ xs) i d (there s) =
    ap (λ b. cond b (Some x) (find (has_id i.id) xs)) (fails (i.id == x.id) (λ t.
    let apart : (x.id == i.id) ≡ false = in-all (λ (n : ℕ). (x.id == n) ≡ false) (in-mapped (λ (e : Item). e.id) s)
    d.0 in
    let same = eqb-true i.id x.id t in
    let self = eq-eqb x.id i.id (sym same) in cc)) ∙ find-its xs i d.1 s

-- what is gathered from an item stands in what is gathered from all
in-gathered : {A B : Type 0} (f : A → List B) {x : A} {xs : List A} (y : B) → IsIn x xs → IsIn y (f x)
    → IsIn y (flat_map f xs)
in-gathered f y (here {xs = xs}) i = in-left (flat_map f xs) i
in-gathered f y (there {y = z} {xs = xs} s) i = in-right (f z) (flat_map f xs) (in-gathered f y s i)

-- the keys that are reached are among those of what is covered
pub reaches : (k : Key) (all exact : List Item) (ids : List ℕ) → AreExact all exact
    → IsDistinct ◌==◌ (map (λ (e : Item). e.id) exact) → IsPermutation (ids_of (is_covered k.m) exact) ids
    → Reaches k all (flat_map (keys_found exact k.priority) ids)
reaches k all exact ids a d m i s u =
    let x = split_and (is_one_header i.normal) (nat_lt i.rank k.priority && covers k.m i.normal) u in
    let y = split_and (nat_lt i.rank k.priority) (covers k.m i.normal) x.1 in
    let at = in-exact all exact i a (item-in all i s) x.0 in
    let listed = in-permuted (ids_of (is_covered k.m) exact) ids i.id m
    (in-mapped (λ (e : Item). e.id) (in-filter (is_covered k.m) at y.1)) in
    let found : key_found exact k.priority i.id ≡ Some (key_of_item i) =
    ap (λ o. option_and_then (lower_key k.priority) o) (find-its exact i d at)
    ∙ ap (λ b. cond b (Some (key_of_item i)) None) y.0 in
    passes-any (one_key (key_of_item i))
    (in-gathered (keys_found exact k.priority) (key_of_item i) listed (own i found)) (key-self (key_of_item i))
  where
    own : (j : Item) → key_found exact k.priority j.id ≡ Some (key_of_item j)
        → IsIn (key_of_item j) (keys_found exact k.priority j.id)
    own j f = subst (λ o. IsIn (key_of_item j) (option_to_list o)) (sym f) here
