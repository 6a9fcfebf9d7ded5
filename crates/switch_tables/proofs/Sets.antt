-- Entries in lists: how often they stand there, and in which of two lists.
use Rattle.std.proofs.Common.{◌≡◌, ℕ, zero, suc, ◌+◌, ◌≤◌, ◌<◌, ◌⊎◌, length, get_or, take, inl, inr, Bool, true, false}
use Rattle.std.proofs.Common.{◌&&◌, ◌||◌, List, [], ◌∷◌, ◌++◌, refl, sym, ap, subst, ◌∙◌, arith, count_by, ◌==◌}
use Rattle.std.specs.Prelude.{not, IsPermutation}
use Rattle.std.specs.List.{AllByRecursion, IsDistinct, list_any, remove}
use Rattle.std.specs.Cmp.Lexicographic.{pointwise}
use Rattle.std.specs.Ordering.{is_eq, nat_cmp, ordering_then}
use Rattle.std.specs.declared.cmp.Ordering.{Ordering}
use Rattle.std.specs.declared.cmp.Ordering.TheVariants.{Equal, Greater, Less}
use Rattle.std.proofs.lemmas.Bool.Decides.{nat_tests}
use Rattle.std.proofs.lemmas.List.Sorted.{IsPermutation-cons, IsPermutation-refl, IsPermutation-remove}
use Rattle.std.proofs.lemmas.List.Sorted.{IsPermutation-sym, IsPermutation-trans, list_any-IsPermutation}
use Rattle.std.proofs.lemmas.Map.Keys.{IsDistinct-IsPermutation}
use Rattle.cv_io.specs.declared.leaf.Leaf.{Leaf}
use Rattle.cv_io.specs.Leaves.{ancestry_cmp, leaf_cmp, same_leaf}
use Rattle.list_change.specs.Changes.{Changed}
use Rattle.match_index.proofs.Counts.{count-cons, count-permuted, one}
use Rattle.of10_actions.specs.Same.{same_action}
use Rattle.of10_match.specs.Order.{by_bytes}
use Rattle.of10_match.specs.Ranges.{IsMatch}
use Rattle.of10_match.specs.Same.{same_match}
use Rattle.of10_match.proofs.ByteOrder.{by_bytes-equal}
use Rattle.of10_match.proofs.Same.{match_decides}
use Rattle.switch_meaning.specs.BatchLaw.{HasNoTwins}
use Rattle.switch_meaning.specs.Keys.{same_key}
use Rattle.switch_meaning.specs.Same.{same_entry}
use Rattle.switch_meaning.specs.declared.entry.PhysEntry.{PhysEntry}
use Rattle.switch_meaning.proofs.Items.{fails, join_and, split_and}
use Rattle.switch_meaning.proofs.Members.{IsIn, distinct-narrower, here, in-all, in-either, in-left, in-right, place}
use Rattle.switch_meaning.proofs.Members.{same-items, there}
use Rattle.install_plan.specs.Tables.{place_cmp, same_place}
use Rattle.install_plan.proofs.Counting.{counted-in, place_total}
use Rattle.exact_gate.specs.Standing.{stands_in}
use Rattle.exact_gate.proofs.Standing.{same-flip, same-self, stands-append, stands-in}

-- ---- entries that stand once

abbrev pub are_twins : PhysEntry → PhysEntry → Bool
are_twins d e = same_key d e && pointwise same_leaf d.ancestry e.ancestry

abbrev pub Once : List PhysEntry → Type 0
Once xs = IsDistinct same_entry xs

-- the same entry twice would be twins
same-twins : (d e : PhysEntry) → same_entry d e ≡ true → are_twins d e ≡ true
same-twins d e t =
    let leaves : Bool = pointwise same_leaf d.ancestry e.ancestry in
    let actions : Bool = pointwise same_action d.actions e.actions in
    let a = split_and (same_match d.m e.m) ((d.priority == e.priority) && (actions && leaves)) t in
    let b = split_and (d.priority == e.priority) (actions && leaves) a.1 in
    let c = split_and actions leaves b.1 in
    join_and (same_key d e) leaves (join_and (same_match d.m e.m) (d.priority == e.priority) a.0 b.0) c.1

pub no-twins-once : (xs : List PhysEntry) → HasNoTwins xs → Once xs
no-twins-once xs d =
    distinct-narrower are_twins same_entry xs d
    (λ x y i j f. fails (same_entry x y) (λ t. let g = same-twins x y t in cc))

-- what stands in one part of a list doesn't stand in the other
pub apart-parts : (xs ys : List PhysEntry) (e : PhysEntry) → Once (xs ++ ys) → IsIn e xs → IsIn e ys → ⊥
unfolding IsDistinct
apart-parts [] ys e d i j = elim i [ ]
apart-parts (x ∷ xs) ys e d here j = let f : same_entry e e ≡ false =
    in-all (λ y. same_entry e y ≡ false) (in-right xs ys j) d.0 in let t = same-self e in cc
apart-parts (x ∷ xs) ys e d (there i) j = apart-parts xs ys e d.1 i j

all-apart : (x : PhysEntry) (ys : List PhysEntry) → (IsIn x ys → ⊥) → AllByRecursion (λ y. same_entry x y ≡ false) ys
all-apart x [] f = tt
all-apart x (y ∷ ys) f = (
  fails (same_entry x y)
      (λ t. f (stands-in (y ∷ ys) x (first-true (same_entry x y) (list_any (same_entry x) ys) t))),
  all-apart x ys (λ i. f (there i)),
)
  where
    first-true : (a b : Bool) → a ≡ true → (a || b) ≡ true
    first-true true b e = refl
    first-true false b e = cc

all-both : (P : PhysEntry → Type 0) (xs ys : List PhysEntry) → AllByRecursion P xs → AllByRecursion P ys
    → AllByRecursion P (xs ++ ys)
all-both P [] ys a b = b
all-both P (x ∷ xs) ys a b = (a.0, all-both P xs ys a.1 b)

-- two lists without a common entry
pub once-both : (xs ys : List PhysEntry) → Once xs → Once ys → ((e : PhysEntry) → IsIn e xs → IsIn e ys → ⊥)
    → Once (xs ++ ys)
unfolding IsDistinct
once-both [] ys d e f = e
once-both (x ∷ xs) ys d e f = (
  all-both (λ y. same_entry x y ≡ false) xs ys d.0 (all-apart x ys (f x here)),
  once-both xs ys d.1 e (λ z i j. f z (there i) j),
)

-- a list in two parts
pub in-parts : (xs ys zs : List PhysEntry) → Once xs → Once ys → Once zs → ((e : PhysEntry) → IsIn e ys → IsIn e zs → ⊥)
    → ((e : PhysEntry) → IsIn e xs → IsIn e ys ⊎ IsIn e zs) → ((e : PhysEntry) → IsIn e ys → IsIn e xs)
    → ((e : PhysEntry) → IsIn e zs → IsIn e xs)
    → IsPermutation xs (ys ++ zs)
in-parts xs ys zs d e f apart one other rest =
    same-items same_entry same-self same-flip xs (ys ++ zs) d (once-both ys zs e f apart) (λ x i. put x (one x i))
    (λ x i. take x (in-either ys zs i))
  where
    put : (x : PhysEntry) → IsIn x ys ⊎ IsIn x zs → IsIn x (ys ++ zs)
    put x (inl i) = in-left zs i
    put x (inr i) = in-right ys zs i

    take : (x : PhysEntry) → IsIn x ys ⊎ IsIn x zs → IsIn x xs
    take x (inl i) = other x i
    take x (inr i) = rest x i

-- ---- what stands in lists after a change

pub stands-permuted : (xs ys : List PhysEntry) (e : PhysEntry) → IsPermutation xs ys → stands_in xs e ≡ stands_in ys e
stands-permuted xs ys e m = list_any-IsPermutation (same_entry e) xs ys m

set-kept : (k g c : Bool) → (k ≡ true → g ≡ false) → (c || k) ≡ (((g || k) && not g) || c)
set-kept true true c h = let f = h refl in cc
set-kept true false true h = refl
set-kept true false false h = refl
set-kept false true true h = refl
set-kept false true false h = refl
set-kept false false true h = refl
set-kept false false false h = refl

-- a change of lists is one of what stands in them
pub changed-stands : (old new gone come : List PhysEntry) → Once old → Changed old new gone come
    → (e : PhysEntry) → stands_in new e ≡ ((stands_in old e && not (stands_in gone e)) || stands_in come e)
changed-stands old new gone come d c e =
    let was : stands_in old e ≡ (stands_in gone e || stands_in c.kept e) = stands-permuted old (gone ++ c.kept) e c.was
    ∙ stands-append gone c.kept e in
    let is : stands_in new e ≡ (stands_in come e || stands_in c.kept e) = stands-permuted new (come ++ c.kept) e c.is
    ∙ stands-append come c.kept e in
    let once : Once (gone ++ c.kept) = IsDistinct-IsPermutation same_entry same-flip old (gone ++ c.kept) c.was d in
    let apart : stands_in c.kept e ≡ true → stands_in gone e ≡ false =
    λ t. fails (stands_in gone e) (λ u. apart-parts gone c.kept e once (stands-in gone e u) (stands-in c.kept e t)) in
    is ∙ (set-kept (stands_in c.kept e) (stands_in gone e) (stands_in come e) apart
    ∙ ap (λ (o : Bool). (o && not (stands_in gone e)) || stands_in come e) (sym was))

-- ---- how often entries stand

pub counts-permuted : (xs ys : List PhysEntry) → ((q : PhysEntry → Bool) → count_by q xs ≡ count_by q ys)
    → IsPermutation xs ys
counts-permuted [] [] e = IsPermutation-refl []
counts-permuted [] (y ∷ ys) e =
    let s = e (same_entry y) in
    let c = count-cons (same_entry y) y ys in
    let t : one (same_entry y y) ≡ 1 = ap one (same-self y) in
    absurd (omega (arith, s, c, t))
counts-permuted (x ∷ xs) ys e =
    let c = count-cons (same_entry x) x xs in
    let t : one (same_entry x x) ≡ 1 = ap one (same-self x) in
    let s = e (same_entry x) in
    let some : 0 < count_by (same_entry x) ys = omega (arith, c, t, s) in
    let at = place x ys (counted-in x ys some) in
    let left = remove ys at.0 in
    let moved : IsPermutation ys (x ∷ left) = IsPermutation-remove ys at.0 x at.1 (sym at.2) in
    let rest : (q : PhysEntry → Bool) → count_by q xs ≡ count_by q left =
    λ q. taken q left (count-permuted q ys (x ∷ left) moved) in
    IsPermutation-trans (x ∷ xs) (x ∷ left) ys (IsPermutation-cons x xs left (counts-permuted xs left rest))
    (IsPermutation-sym ys (x ∷ left) moved)
  where
    taken : (q : PhysEntry → Bool) (zs : List PhysEntry) → count_by q (x ∷ zs) ≡ count_by q ys
        → count_by q xs ≡ count_by q zs
    taken q zs m = let a = count-cons q x xs in let b = count-cons q x zs in let s = e q in omega (arith, a, b, s, m)

-- ---- entries of one place

both-equal : (a b : Ordering) → ordering_then a b ≡ Equal → (a ≡ Equal) × (b ≡ Equal)
both-equal Less b e = cc
both-equal Equal b e = (refl, e)
both-equal Greater b e = cc

number-same : (a b : ℕ) → nat_cmp a b ≡ Equal → (a == b) ≡ true
number-same a b e = grind (arith, nat_tests)

leaf-same : (a b : Leaf) → leaf_cmp a b ≡ Equal → same_leaf a b ≡ true
leaf-same a b e =
    let s = both-equal (nat_cmp a.member b.member) (nat_cmp a.kind b.kind) e in
    join_and (a.member == b.member) (a.kind == b.kind) (number-same a.member b.member s.0)
    (number-same a.kind b.kind s.1)

ancestry-same : (a b : List Leaf) → ancestry_cmp a b ≡ Equal → pointwise same_leaf a b ≡ true
ancestry-same [] [] e = refl
ancestry-same [] (y ∷ ys) e = cc
ancestry-same (x ∷ xs) [] e = cc
ancestry-same (x ∷ xs) (y ∷ ys) e =
    let s = both-equal (leaf_cmp x y) (ancestry_cmp xs ys) e in
    join_and (same_leaf x y) (pointwise same_leaf xs ys) (leaf-same x y s.0) (ancestry-same xs ys s.1)

equal-true : (r : Ordering) → is_eq r ≡ true → r ≡ Equal
equal-true Less e = cc
equal-true Equal e = refl
equal-true Greater e = cc

-- two entries of one place are twins
one-place : (e x y : PhysEntry) → IsMatch x.m → IsMatch y.m → same_place e x ≡ true → same_place e y ≡ true
    → are_twins x y ≡ true
one-place e x y p q s t =
    let a : place_cmp e x ≡ Equal = equal-true (place_cmp e x) s in
    let b : place_cmp e y ≡ Equal = equal-true (place_cmp e y) t in
    let c : place_cmp x y ≡ Equal = sym (place_total.congr e x y a) ∙ b in
    let k = both-equal (ordering_then (nat_cmp x.priority y.priority) (by_bytes x.m y.m))
    (ancestry_cmp x.ancestry y.ancestry) c in
    let m = both-equal (nat_cmp x.priority y.priority) (by_bytes x.m y.m) k.0 in
    let same : same_match x.m y.m ≡ true = (match_decides x.m y.m).1 (by_bytes-equal x.m y.m p q m.1) in
    join_and (same_key x y) (pointwise same_leaf x.ancestry y.ancestry)
    (join_and (same_match x.m y.m) (x.priority == y.priority) same (number-same x.priority y.priority m.0))
    (ancestry-same x.ancestry y.ancestry k.1)

none-there : (e x : PhysEntry) (xs : List PhysEntry) → IsMatch x.m → same_place e x ≡ true
    → AllByRecursion (λ y. IsMatch y.m) xs
    → AllByRecursion (λ y. are_twins x y ≡ false) xs → count_by (same_place e) xs ≡ 0
none-there e x [] p s m a = refl
none-there e x (y ∷ ys) p s m a =
    let f : same_place e y ≡ false =
    fails (same_place e y) (λ t. let g = one-place e x y p m.0 s t in let h = a.0 in cc) in
    let z : one (same_place e y) ≡ 0 = ap one f in
    let c = count-cons (same_place e) y ys in
    let r = none-there e x ys p s m.1 a.1 in
    omega (arith, z, c, r)

-- of entries without twins at most one has a place
pub place-once : (e : PhysEntry) (xs : List PhysEntry) → HasNoTwins xs
    → AllByRecursion (λ (x : PhysEntry). IsMatch x.m) xs → count_by (same_place e) xs ≤ 1
unfolding IsDistinct
place-once e [] d m = omega arith
place-once e (x ∷ xs) d m = by (same_place e x) refl (place-once e xs d.1 m.1)
  where
    by : (b : Bool) → same_place e x ≡ b → count_by (same_place e) xs ≤ 1 → count_by (same_place e) (x ∷ xs) ≤ 1
    by true s rest =
        let z : one (same_place e x) ≡ 1 = ap one s in
        let c = count-cons (same_place e) x xs in
        let n = none-there e x xs m.0 s m.1 d.0 in
        omega (arith, z, c, n)
    by false s rest =
        let z : one (same_place e x) ≡ 0 = ap one s in
        let c = count-cons (same_place e) x xs in
        omega (arith, z, c, rest)

-- ---- each entry, as far as a loop has come

module _ {A : Type 0} (P : A → Type 0) where
  pub all-more : (xs : List A) (i : ℕ) (x : A) → i < length xs → x ≡ get_or xs i x → P x → AllByRecursion P (take i xs)
      → AllByRecursion P (take (i + 1) xs)
  all-more [] i x lt e p a = absurd (omega arith)
  all-more (y ∷ ys) zero x lt e p a =
      let one : 0 + 1 ≡ suc 0 = omega arith in
      subst (λ (n : ℕ). AllByRecursion P (take n (y ∷ ys))) (sym one) (subst P e p, tt)
  all-more (y ∷ ys) (suc i) x lt e p a =
      let next : suc i + 1 ≡ suc (i + 1) = omega arith in
      subst (λ (n : ℕ). AllByRecursion P (take n (y ∷ ys))) (sym next) (a.0, all-more ys i x (omega arith) e p a.1)

  pub all-taken : (xs : List A) (i : ℕ) → length xs ≤ i → AllByRecursion P (take i xs) → AllByRecursion P xs
  all-taken [] i le a = tt
  all-taken (y ∷ ys) zero le a = absurd (omega arith)
  all-taken (y ∷ ys) (suc i) le a = (a.0, all-taken ys i (omega arith) a.1)
