-- Ids of the same items.
use Rattle.std.proofs.Common.{◌≡◌, ℕ, ◌+◌, ◌<◌, Bool, true, false, cond, ◌&&◌, List, [], ◌∷◌, map, filter, refl, sym}
use Rattle.std.proofs.Common.{ap, ◌∙◌, arith, count_by, get_or, remove, ◌==◌, eqb-true, eq-eqb, lt-ltb}
use Rattle.std.specs.Prelude.{IsPermutation}
use Rattle.std.specs.List.{list_any, position_or_len}
use Rattle.std.proofs.lemmas.List.Quantifiers.{position-Some}
use Rattle.std.proofs.lemmas.List.Sorted.{IsPermutation-refl, IsPermutation-sym, IsPermutation-trans}
use Rattle.std.proofs.lemmas.List.Sorted.{IsPermutation-cons, IsPermutation-remove}
use Rattle.match_index.specs.Items.{ids_of}
use Rattle.match_index.specs.InsideGroups.{SameItems}
use Rattle.match_index.specs.declared.item.Item.{Item}
use Rattle.match_index.proofs.Counts.{any_count, count-cons, count-permuted, one, position-any}

-- the ids that pass a test are the items that pass it by their ids
count_ids : (q : ℕ → Bool) (p : Item → Bool) (xs : List Item)
    → count_by q (ids_of p xs) ≡ count_by (λ e. p e && q e.id) xs
count_ids q p [] = refl
count_ids q p (x ∷ xs) = by (p x) (count_ids q p xs) ∙ sym (count-cons (λ e. p e && q e.id) x xs)
  where
    by : (b : Bool) → count_by q (ids_of p xs) ≡ count_by (λ e. p e && q e.id) xs
        → count_by q (map (λ (e : Item). e.id) (cond b (x ∷ filter p xs) (filter p xs)))
        ≡ one (b && q x.id) + count_by (λ e. p e && q e.id) xs
    by true e = let c = count-cons q x.id (ids_of p xs) in omega (arith, c, e)
    by false e = omega (arith, e)

count_itself : (x : ℕ) → (x == x) ≡ true
count_itself x = eq-eqb x x refl

-- numbers that stand as often are a permutation
pub permuted-counts : (xs ys : List ℕ) → ((q : ℕ → Bool) → count_by q xs ≡ count_by q ys) → IsPermutation xs ys
permuted-counts [] [] e = IsPermutation-refl []
permuted-counts [] (y ∷ ys) e =
    let s = e (λ z. y == z) in
    let c = count-cons (λ z. y == z) y ys in
    let t : one (y == y) ≡ 1 = ap one (count_itself y) in
    absurd (omega (arith, s, c, t))
permuted-counts (x ∷ xs) ys e =
    let c = count-cons (λ z. x == z) x xs in
    let t : one (x == x) ≡ 1 = ap one (count_itself x) in
    let s = e (λ z. x == z) in
    let some : 0 < count_by (λ z. x == z) ys = omega (arith, c, t, s) in
    let there : list_any (λ z. x == z) ys ≡ true = any_count (λ z. x == z) ys ∙ lt-ltb 0 _ some in
    let at = position_or_len (λ z. x == z) ys in
    let place = position-Some (λ z. x == z) ys at x (position-any (λ z. x == z) ys there) in
    let same : x ≡ get_or ys at x = eqb-true x _ place.1 in
    let moved = IsPermutation-remove ys at x place.0 same in
    let rest : (q : ℕ → Bool) → count_by q xs ≡ count_by q (remove ys at) =
    λ q. taken q (remove ys at) (count-permuted q ys (x ∷ remove ys at) moved) in
    IsPermutation-trans (x ∷ xs) (x ∷ remove ys at) ys
    (IsPermutation-cons x xs (remove ys at) (permuted-counts xs (remove ys at) rest))
    (IsPermutation-sym ys (x ∷ remove ys at) moved)
  where
    taken : (q : ℕ → Bool) (zs : List ℕ) → count_by q (x ∷ zs) ≡ count_by q ys → count_by q xs ≡ count_by q zs
    taken q zs m = let a = count-cons q x xs in let b = count-cons q x zs in let s = e q in omega (arith, a, b, s, m)

-- the ids of the same items
pub ids_same : (p : Item → Bool) (xs ys : List Item) → SameItems xs ys → IsPermutation (ids_of p xs) (ids_of p ys)
ids_same p xs ys s = permuted-counts (ids_of p xs) (ids_of p ys)
    (λ q. count_ids q p xs ∙ (s (λ e. p e && q e.id) ∙ sym (count_ids q p ys)))
