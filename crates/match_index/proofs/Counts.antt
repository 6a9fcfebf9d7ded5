-- Items by how many of them pass a test.
use Rattle.std.proofs.Common.{◌≡◌, ℕ, ◌+◌, ◌<◌, Bool, true, false, cond, ◌||◌, List, [], ◌∷◌, ◌++◌, refl, sym, ap, ◌∙◌}
use Rattle.std.proofs.Common.{arith, if◌then◌else◌, true≢false, count_by, nat_lt, lt-ltb, get_or, length, Decides, ◌==◌}
use Rattle.std.proofs.Common.{Some, None, position}
use Rattle.std.specs.Prelude.{IsPermutation, swap_remove}
use Rattle.std.specs.List.{list_any, position_or_len}
use Rattle.std.proofs.lemmas.List.Folds.{list_any_at}
use Rattle.std.proofs.lemmas.List.Quantifiers.{position-Some}
use Rattle.std.proofs.lemmas.Bool.Decides.{Decides-eqb, Decides-and, Decides-like}
use Rattle.std.proofs.lemmas.List.Sums.{sum_by-cons, sum_by-append}
use Rattle.std.proofs.lemmas.List.Sorted.{sum_by-IsPermutation, IsPermutation-swap_remove}
use Rattle.of10_match.specs.Same.{same_match}
use Rattle.of10_match.proofs.Same.{match_decides}
use Rattle.match_index.specs.Items.{AddsTo, same_item}
use Rattle.match_index.specs.declared.item.Item.{Item}

-- the test of equality decides it
pub item_decides : (a b : Item) → Decides (same_item a b) (a ≡ b)
item_decides a b =
    Decides-like (same_item a b)
    (λ (t : (a.id ≡ b.id) × ((a.rank ≡ b.rank) × (a.normal ≡ b.normal))). λ i. record
    { id = t.0 i; rank = t.1.0 i; normal = t.1.1 i })
    (λ e. (ap (λ (z : Item). z.id) e, (ap (λ (z : Item). z.rank) e, ap (λ (z : Item). z.normal) e)))
    (Decides-and (a.id == b.id) _ (Decides-eqb a.id b.id)
    (Decides-and (a.rank == b.rank) (same_match a.normal b.normal) (Decides-eqb a.rank b.rank)
    (match_decides a.normal b.normal)))

abbrev pub one : Bool → ℕ
one b = if b then 1 else 0

module _ {X : Type 0} (p : X → Bool) where
  pub count-cons : (x : X) (xs : List X) → count_by p (x ∷ xs) ≡ one (p x) + count_by p xs
  count-cons x xs = sum_by-cons (λ y. cond (p y) 1 0) x xs

  pub count-append : (xs ys : List X) → count_by p (xs ++ ys) ≡ count_by p xs + count_by p ys
  count-append xs ys = sum_by-append (λ y. cond (p y) 1 0) xs ys

  pub count-permuted : (xs ys : List X) → IsPermutation xs ys → count_by p ys ≡ count_by p xs
  count-permuted xs ys h = sum_by-IsPermutation (λ y. cond (p y) 1 0) xs ys h

  any_more : (b c : Bool) (n : ℕ) → c ≡ nat_lt 0 n → (b || c) ≡ nat_lt 0 (one b + n)
  any_more true c n e = sym (lt-ltb 0 (1 + n) (omega arith))
  any_more false c n e = e ∙ ap (nat_lt 0) (let z : n ≡ 0 + n = omega arith in z)

  pub any_count : (xs : List X) → list_any p xs ≡ nat_lt 0 (count_by p xs)
  any_count [] = refl
  any_count (x ∷ xs) = any_more (p x) (list_any p xs) (count_by p xs) (any_count xs)
      ∙ ap (nat_lt 0) (sym (count-cons x xs))

-- lists with the same items pass a test alike
pub same_any : {X : Type 0} (xs ys : List X) → ((p : X → Bool) → count_by p xs ≡ count_by p ys) → (p : X → Bool)
    → list_any p xs ≡ list_any p ys
same_any xs ys e p = any_count p xs ∙ (ap (nat_lt 0) (e p) ∙ sym (any_count p ys))

-- one item is taken out, and the last takes its place
pub AddsTo-swap_remove : (xs : List Item) (i : ℕ) (x : Item) → i < length xs → x ≡ get_or xs i x
    → AddsTo x (swap_remove xs i x) xs
AddsTo-swap_remove xs i x h e p =
    let s = count-permuted p xs (x ∷ swap_remove xs i x) (IsPermutation-swap_remove xs i x h e) in
    let c = count-cons p x (swap_remove xs i x) in
    omega (arith, s, c)

-- one more item
pub AddsTo-push : (xs : List Item) (x : Item) → AddsTo x xs (xs ++ x ∷ [])
AddsTo-push xs x p = let a = count-append p xs (x ∷ []) in let c = count-cons p x [] in omega (arith, a, c)

-- where a test finds something, it passes there
pub position-some_any : {X : Type 0} (p : X → Bool) (xs : List X) (i : ℕ) → position p xs ≡ Some i
    → list_any p xs ≡ true
position-some_any p [] i e = absurd (cc)
position-some_any p (x ∷ xs) i e = let s = position-Some p (x ∷ xs) i x e in list_any_at p (x ∷ xs) i x s.0 s.1

some_none : {X : Type 0} {x : X} → None ≡ Some x → ⊥
some_none e = cc

within_more : {X : Type 0} (p : X → Bool) (x : X) (xs : List X) (b : Bool) → p x ≡ b
    → (list_any p xs ≡ true → position_or_len p xs < length xs) → list_any p (x ∷ xs) ≡ true
    → position_or_len p (x ∷ xs) < length (x ∷ xs)
within_more p x xs true e more h = rw e (omega arith)
within_more p x xs false e more h = let r = more (rw e at h) in rw e (omega arith)

any_within : {X : Type 0} (p : X → Bool) (xs : List X) → list_any p xs ≡ true → position_or_len p xs < length xs
any_within p [] h = absurd (true≢false (sym h))
any_within p (x ∷ xs) h = within_more p x xs (p x) refl (any_within p xs) h

pub position-any : {X : Type 0} (p : X → Bool) (xs : List X) → list_any p xs ≡ true
    → position p xs ≡ Some (position_or_len p xs)
position-any p xs h = rw (lt-ltb (position_or_len p xs) (length xs) (any_within p xs h)) refl

-- where it finds nothing, nothing passes
pub position-none : {X : Type 0} (p : X → Bool) (xs : List X) → position p xs ≡ None → list_any p xs ≡ false
position-none p xs e = by (list_any p xs) refl
  where
    by : (b : Bool) → list_any p xs ≡ b → list_any p xs ≡ false
    by true t = absurd (some_none (sym e ∙ position-any p xs t))
    by false t = t

-- the place of an item holds it
pub item_at : (item : Item) (xs : List Item) (i : ℕ) → position (same_item item) xs ≡ Some i
    → (i < length xs) × (item ≡ get_or xs i item)
item_at item xs i e = let s = position-Some (same_item item) xs i item e in (s.0, (item_decides item _).0 s.1)
