-- A stable sort by key puts rows by key.
use Rattle.std.proofs.Common.{◌≡◌, ◌∙◌, ◌+◌, ◌&&◌, ◌++◌, suc, Bool, true, false, List, [], ◌∷◌, refl, sym, ap, subst}
use Rattle.std.proofs.Common.{arith}
use Rattle.std.specs.Prelude.{if◌then◌else◌, filter, not}
use Rattle.std.specs.Cmp.{IsStrictWeakOrder, IsTotalOrder, on_total}
use Rattle.std.specs.List.{AllByRecursion, slice_index_or}
use Rattle.std.specs.List.Sorted.{IsSortedBy, IsStableBy, ties}
use Rattle.std.specs.Ordering.{is_le, is_lt, ordering_reverse}
use Rattle.std.specs.declared.cmp.Ordering.{Ordering}
use Rattle.std.specs.declared.cmp.Ordering.TheVariants.{Equal, Greater, Less}
use Rattle.std.proofs.lemmas.Cmp.{tied_itself}
use Rattle.std.proofs.lemmas.List.Elements.{filter-append}
use Rattle.std.proofs.lemmas.List.Sorted.{ranks_by}
use Rattle.install_plan.specs.declared.written.Written.{Written}
use Rattle.policy_meaning.specs.LeafFact.{EachPair}
use Rattle.policy_meaning.proofs.Lists.{all-map}
use Rattle.switch_meaning.specs.Batches.{key_cmp}
use Rattle.switch_meaning.proofs.ByKey.{key_total}
use Rattle.shared_rows.specs.Rows.{NotAfter, by_key, put_by_key}

abbrev pub row_cmp : Written → Written → Ordering
row_cmp v w = key_cmp v.entry w.entry

pub rows_total : IsTotalOrder row_cmp
rows_total = on_total (λ (w : Written). w.entry) key_total

-- the first comes before the second
abbrev pub is_lower : Written → Written → Bool
is_lower v w = is_lt (row_cmp v w)

pub weak : IsStrictWeakOrder is_lower
weak = ranks_by key_total (λ (w : Written). w.entry)

-- neither comes before the other
abbrev is_alike : Written → Written → Bool
is_alike = ties is_lower

not_itself : (w : Written) → is_lower w w ≡ false
not_itself w = ap is_lt (tied_itself rows_total w)

alike_itself : (w : Written) → is_alike w w ≡ true
alike_itself w = ap (λ b. not b && not b) (not_itself w)

not_below : (r : Ordering) → is_le r ≡ true → is_lt (ordering_reverse r) ≡ false
not_below Less e = refl
not_below Equal e = refl
not_below Greater e = cc

below : (r : Ordering) → is_le r ≡ false → (is_lt r ≡ false) × (is_lt (ordering_reverse r) ≡ true)
below Less e = cc
below Equal e = cc
below Greater e = (refl, refl)

-- the row that is put isn't after one that it is put before, and is after one that it is put behind
put_before : (w x : Written) → is_le (row_cmp w x) ≡ true → NotAfter w x
put_before w x e = ap is_lt (rows_total.antisymm x w) ∙ not_below (row_cmp w x) e

put_behind : (w x : Written) → is_le (row_cmp w x) ≡ false → NotAfter x w × (is_lower x w ≡ true)
put_behind w x e =
    let b = below (row_cmp w x) e in
    (b.0, ap is_lt (rows_total.antisymm x w) ∙ b.1)

-- rows that are put by key rise ---------------------------------------------------------------------------------------

pub put_each : (P : Written → Type 0) (w : Written) (xs : List Written) → P w → AllByRecursion P xs
    → AllByRecursion P (put_by_key w xs)
put_each P w [] p a = (p, tt)
put_each P w (x ∷ xs) p a = by (is_le (row_cmp w x)) (put_each P w xs p a.1)
  where
    by : (b : Bool) → AllByRecursion P (put_by_key w xs)
        → AllByRecursion P (if b then w ∷ x ∷ xs else x ∷ put_by_key w xs)
    by true rest = (p, a)
    by false rest = (a.0, rest)

put_rises : (w : Written) (xs : List Written) → EachPair NotAfter xs → EachPair NotAfter (put_by_key w xs)
put_rises w [] p = (tt, tt)
put_rises w (x ∷ xs) p = by (is_le (row_cmp w x)) refl (put_rises w xs p.1)
  where
    by : (b : Bool) → is_le (row_cmp w x) ≡ b → EachPair NotAfter (put_by_key w xs)
        → EachPair NotAfter (if b then w ∷ x ∷ xs else x ∷ put_by_key w xs)
    by true e rest =
        let first = put_before w x e in
        ((first, all-map (NotAfter x) (NotAfter w) xs (λ z up. weak.chain z x w up first) p.0), p)
    by false e rest = (put_each (NotAfter x) w xs (put_behind w x e).0 p.0, rest)

pub sorted_rises : (ws : List Written) → EachPair NotAfter (by_key ws)
sorted_rises [] = tt
sorted_rises (w ∷ ws) = put_rises w (by_key ws) (sorted_rises ws)

-- rows of one key keep their order ------------------------------------------------------------------------------------

both_not : (a b : Bool) → (not a && not b) ≡ true → (a ≡ false) × (b ≡ false)
both_not true b e = cc
both_not false true e = cc
both_not false false e = (refl, refl)

-- what is like two rows isn't between them
not_between : (t w x : Written) → is_lower x w ≡ true → is_alike t w ≡ true → is_alike t x ≡ true → ⊥
not_between t w x low e f =
    let p = both_not (is_lower t w) (is_lower w t) e in
    let q = both_not (is_lower t x) (is_lower x t) f in
    let never : is_lower x w ≡ false = weak.chain x t w q.1 p.0 in
    cc

changed : (b c : Bool) (w x : Written) (us vs : List Written) → (b ≡ true → c ≡ true → ⊥)
    → vs ≡ (if b then w ∷ us else us)
    → (if c then x ∷ vs else vs) ≡ (if b then w ∷ (if c then x ∷ us else us) else (if c then x ∷ us else us))
changed true true w x us vs n e = absurd (n refl refl)
changed true false w x us vs n e = e
changed false true w x us vs n e = ap (λ ys. x ∷ ys) e
changed false false w x us vs n e = e

put_keeps : (t w : Written) (xs : List Written)
    → filter (is_alike t) (put_by_key w xs) ≡ filter (is_alike t) (w ∷ xs)
put_keeps t w [] = refl
put_keeps t w (x ∷ xs) = by (is_le (row_cmp w x)) refl (put_keeps t w xs)
  where
    by : (b : Bool) → is_le (row_cmp w x) ≡ b → filter (is_alike t) (put_by_key w xs) ≡ filter (is_alike t) (w ∷ xs)
        → filter (is_alike t) (if b then w ∷ x ∷ xs else x ∷ put_by_key w xs) ≡ filter (is_alike t) (w ∷ x ∷ xs)
    by true e rest = refl
    by false e rest =
        changed (is_alike t w) (is_alike t x) w x (filter (is_alike t) xs) (filter (is_alike t) (put_by_key w xs))
        (not_between t w x (put_behind w x e).1) rest

pub sorted_keeps : (t : Written) (ws : List Written) → filter (is_alike t) (by_key ws) ≡ filter (is_alike t) ws
sorted_keeps t [] = refl
sorted_keeps t (w ∷ ws) =
    put_keeps t w (by_key ws) ∙ ap (λ xs. if is_alike t w then w ∷ xs else xs) (sorted_keeps t ws)

-- there is one such list --------------------------------------------------------------------------------------------

all_kept : (P : Written → Type 0) (q : Written → Bool) (xs : List Written) → AllByRecursion P xs
    → AllByRecursion P (filter q xs)
all_kept P q [] h = tt
all_kept P q (x ∷ xs) h = by (q x) (all_kept P q xs h.1)
  where
    by : (b : Bool) → AllByRecursion P (filter q xs) → AllByRecursion P (if b then x ∷ filter q xs else filter q xs)
    by true rest = (h.0, rest)
    by false rest = rest

-- of lists with the same rows the first row of one isn't after that of the other
first_not_after : (y z : Written) (ys zs : List Written) → AllByRecursion (NotAfter z) zs
    → filter (is_alike y) (y ∷ ys) ≡ filter (is_alike y) (z ∷ zs) → NotAfter z y
first_not_after y z ys zs up same =
    let first : filter (is_alike y) (y ∷ ys) ≡ y ∷ filter (is_alike y) ys =
    ap (λ b. if b then y ∷ filter (is_alike y) ys else filter (is_alike y) ys) (alike_itself y) in
    let all = all_kept (NotAfter z) (is_alike y) (z ∷ zs) (not_itself z, up) in
    (subst (AllByRecursion (NotAfter z)) (sym same ∙ first) all).0

first_same : (b c : Bool) (y z : Written) (us vs : List Written) → b ≡ true → c ≡ true
    → (if b then y ∷ us else us) ≡ (if c then z ∷ vs else vs) → y ≡ z
first_same true true y z us vs p q e = cc
first_same true false y z us vs p q e = cc
first_same false c y z us vs p q e = cc

rest_same : (b c : Bool) (y z : Written) (us vs : List Written) → b ≡ c
    → (if b then y ∷ us else us) ≡ (if c then z ∷ vs else vs) → us ≡ vs
rest_same true true y z us vs p e = cc
rest_same true false y z us vs p e = cc
rest_same false true y z us vs p e = cc
rest_same false false y z us vs p e = e

none_first : (z : Written) (zs : List Written) → [] ≡ filter (is_alike z) (z ∷ zs) → ⊥
none_first z zs same =
    let first : filter (is_alike z) (z ∷ zs) ≡ z ∷ filter (is_alike z) zs =
    ap (λ b. if b then z ∷ filter (is_alike z) zs else filter (is_alike z) zs) (alike_itself z) in
    cc

pub one_list : (ys zs : List Written) → EachPair NotAfter ys → EachPair NotAfter zs
    → ((t : Written) → filter (is_alike t) ys ≡ filter (is_alike t) zs) → ys ≡ zs
one_list [] [] p q same = refl
one_list [] (z ∷ zs) p q same = absurd (none_first z zs (same z))
one_list (y ∷ ys) [] p q same = absurd (none_first y ys (sym (same y)))
one_list (y ∷ ys) (z ∷ zs) p q same =
    let low : is_lower y z ≡ false = first_not_after y z ys zs q.0 (same y) in
    let high : is_lower z y ≡ false = first_not_after z y zs ys p.0 (sym (same z)) in
    let alike : is_alike y z ≡ true = (λ i. not (low i) && not (high i)) in
    let first : y ≡ z =
    first_same (is_alike y y) (is_alike y z) y z (filter (is_alike y) ys) (filter (is_alike y) zs) (alike_itself y)
    alike (same y) in
    let rest : ys ≡ zs =
    one_list ys zs p.1 q.1
    (λ t. rest_same (is_alike t y) (is_alike t z) y z (filter (is_alike t) ys) (filter (is_alike t) zs)
    (ap (is_alike t) first) (same t)) in
    λ i. first i ∷ rest i

-- what a sort gives -------------------------------------------------------------------------------------------------

later_sorted : (x y : Written) (ys : List Written) → IsSortedBy is_lower (x ∷ y ∷ ys) → IsSortedBy is_lower (y ∷ ys)
later_sorted x y ys s k d low lt =
    let next : suc k + 1 ≡ suc (k + 1) = omega arith in
    subst (λ n. is_lower (slice_index_or (x ∷ y ∷ ys) n d) (slice_index_or (y ∷ ys) k d) ≡ false) next
    (s (suc k) d (omega arith) (omega arith))

from_sorted : (xs : List Written) → IsSortedBy is_lower xs → EachPair NotAfter xs
from_sorted [] s = tt
from_sorted (x ∷ []) s = (tt, tt)
from_sorted (x ∷ y ∷ ys) s =
    let rest = from_sorted (y ∷ ys) (later_sorted x y ys s) in
    let first : NotAfter x y = s 0 x (omega arith) (omega arith) in
    ((first, all-map (NotAfter y) (NotAfter x) ys (λ z up. weak.chain z y x up first) rest.0), rest)

-- rows that were sorted, those of one key in their order, are the rows by key
pub stable_sorted : (ws sorted : List Written) → IsSortedBy is_lower sorted → IsStableBy is_lower ws sorted
    → sorted ≡ by_key ws
stable_sorted ws sorted s same =
    one_list sorted (by_key ws) (from_sorted sorted s) (sorted_rises ws) (λ t. same t ∙ sym (sorted_keeps t ws))

-- rows that were put by key already, and others behind them
pub sorted_again : (ws vs : List Written) → by_key (by_key ws ++ vs) ≡ by_key (ws ++ vs)
sorted_again ws vs =
    one_list (by_key (by_key ws ++ vs)) (by_key (ws ++ vs)) (sorted_rises (by_key ws ++ vs)) (sorted_rises (ws ++ vs))
    (λ t. sorted_keeps t (by_key ws ++ vs)
    ∙ (filter-append (is_alike t) (by_key ws) vs
    ∙ (ap (λ us. us ++ filter (is_alike t) vs) (sorted_keeps t ws)
    ∙ (sym (filter-append (is_alike t) ws vs) ∙ sym (sorted_keeps t (ws ++ vs))))))
