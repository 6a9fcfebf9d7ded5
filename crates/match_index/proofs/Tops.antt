-- The first of the items that pass a test.
use Rattle.std.proofs.Common.{◌≡◌, ℕ, Bool, true, false, cond, ◌||◌, ◌&&◌, List, [], ◌∷◌, ◌++◌, filter, Option, Some}
use Rattle.std.proofs.Common.{None, refl, sym, ap, ap₂, ◌∙◌, arith, if◌then◌else◌, true≢false, nat_lt, ◌==◌, eqb-true}
use Rattle.std.proofs.Common.{eq-eqb}
use Rattle.std.specs.List.{list_any}
use Rattle.std.proofs.lemmas.Bool.Decides.{nat_tests}
use Rattle.std.proofs.lemmas.List.Folds.{list_any-append}
use Rattle.of10_match.specs.Fields.{MatchOf}
use Rattle.match_index.specs.Items.{IsFirst, IsLeastId, IsTop, before, is_before, same_item}
use Rattle.match_index.specs.InsideGroups.{SameItems}
use Rattle.match_index.specs.Questions.{is_in_way}
use Rattle.match_index.specs.declared.item.Item.{Item}
use Rattle.match_index.proofs.Counts.{item_decides, same_any}

pub or_false : (a b : Bool) → (a || b) ≡ false → (a ≡ false) × (b ≡ false)
or_false true b h = absurd (true≢false h)
or_false false b h = (refl, h)

pub or_left : (a b : Bool) → a ≡ true → (a || b) ≡ true
or_left a b e = rw e refl

pub or_right : (a b : Bool) → b ≡ true → (a || b) ≡ true
or_right true b e = refl
or_right false b e = e

or_none : (a b : Bool) → a ≡ false → b ≡ false → (a || b) ≡ false
or_none a b e f = rw e f

pub and_true : (a b : Bool) → (a && b) ≡ true → (a ≡ true) × (b ≡ true)
and_true true b h = (refl, h)
and_true false b h = absurd (true≢false (sym h))

pub and_both : (a b : Bool) → a ≡ true → b ≡ true → (a && b) ≡ true
and_both a b e f = rw e f

module _ {X : Type 0} where
  -- where a weaker test fails everywhere, a stronger one does
  pub any_stronger : (p q : X → Bool) → ((x : X) → q x ≡ true → p x ≡ true) → (xs : List X) → list_any p xs ≡ false
      → list_any q xs ≡ false
  any_stronger p q w [] h = refl
  any_stronger p q w (x ∷ xs) h = let o = or_false (p x) (list_any p xs) h in
      by (q x) refl o.0 (any_stronger p q w xs o.1)
    where
      by : (b : Bool) → q x ≡ b → p x ≡ false → list_any q xs ≡ false → (q x || list_any q xs) ≡ false
      by true e n r = absurd (true≢false (sym (w x e) ∙ n))
      by false e n r = rw e r

  -- where a stronger test passes somewhere, a weaker one does
  pub any_weaker : (p q : X → Bool) → ((x : X) → q x ≡ true → p x ≡ true) → (xs : List X) → list_any q xs ≡ true
      → list_any p xs ≡ true
  any_weaker p q w [] h = absurd (true≢false (sym h))
  any_weaker p q w (x ∷ xs) h = by (q x) refl (any_weaker p q w xs)
    where
      by : (b : Bool) → q x ≡ b → (list_any q xs ≡ true → list_any p xs ≡ true) → (p x || list_any p xs) ≡ true
      by true e r = or_left (p x) (list_any p xs) (w x e)
      by false e r = or_right (p x) (list_any p xs) (r (sym (ap (λ b. b || list_any q xs) e) ∙ h))

  pub any_alike : (p q : X → Bool) → ((x : X) → q x ≡ p x) → (xs : List X) → list_any q xs ≡ list_any p xs
  any_alike p q e [] = refl
  any_alike p q e (x ∷ xs) = ap₂ (λ a b. a || b) (e x) (any_alike p q e xs)

  pub any_filtered : (p q : X → Bool) (xs : List X) → list_any q (filter p xs) ≡ list_any (λ x. p x && q x) xs
  any_filtered p q [] = refl
  any_filtered p q (x ∷ xs) = by (p x) (any_filtered p q xs)
    where
      by : (b : Bool) → list_any q (filter p xs) ≡ list_any (λ y. p y && q y) xs
          → list_any q (cond b (x ∷ filter p xs) (filter p xs)) ≡ ((b && q x) || list_any (λ y. p y && q y) xs)
      by true e = ap (λ c. q x || c) e
      by false e = e

  pub any_all : (p : X → Bool) (xs : List X) → list_any p xs ≡ list_any (λ _. true) (filter p xs)
  any_all p [] = refl
  any_all p (x ∷ xs) = by (p x) (any_all p xs)
    where
      by : (b : Bool) → list_any p xs ≡ list_any (λ _. true) (filter p xs)
          → (b || list_any p xs) ≡ list_any (λ _. true) (cond b (x ∷ filter p xs) (filter p xs))
      by true e = refl
      by false e = e

  none_both : (q : X → Bool) (xs ys : List X) → list_any q xs ≡ false → list_any q ys ≡ false
      → list_any q (xs ++ ys) ≡ false
  none_both q xs ys a b = list_any-append q xs ys ∙ or_none (list_any q xs) (list_any q ys) a b

  some_left : (q : X → Bool) (xs ys : List X) → list_any q xs ≡ true → list_any q (xs ++ ys) ≡ true
  some_left q xs ys a = list_any-append q xs ys ∙ or_left (list_any q xs) (list_any q ys) a

  some_right : (q : X → Bool) (xs ys : List X) → list_any q ys ≡ true → list_any q (xs ++ ys) ≡ true
  some_right q xs ys a = list_any-append q xs ys ∙ or_right (list_any q xs) (list_any q ys) a

-- the order of items
pub earlier : (d b a : Item) → is_before d b ≡ true → is_before b a ≡ true → is_before d a ≡ true
earlier d b a s t = grind (arith, nat_tests)

pub not_later : (d a b : Item) → is_before d a ≡ true → is_before b a ≡ false → is_before d b ≡ true
not_later d a b s t = grind (arith, nat_tests)

module _ (p : Item → Bool) where
  alone : (xs : List Item) (y : Item) → list_any p xs ≡ false → list_any (λ e. p e && is_before e y) xs ≡ false
  alone xs y n = any_stronger p (λ e. p e && is_before e y) (λ e h. (and_true (p e) _ h).0) xs n

  still : (xs : List Item) (x y : Item) → ((e : Item) → is_before e y ≡ true → is_before e x ≡ true)
      → list_any (λ e. p e && is_before e x) xs ≡ false → list_any (λ e. p e && is_before e y) xs ≡ false
  still xs x y w n = any_stronger (λ e. p e && is_before e x) (λ e. p e && is_before e y)
      (λ e h. let a = and_true (p e) _ h in and_both (p e) (is_before e x) a.0 (w e a.1)) xs n

  first_of_two : (xs ys : List Item) (x y : Item) → IsFirst p xs x → IsFirst p ys y → (b : Bool) → is_before y x ≡ b
      → IsFirst p (xs ++ ys) (if b then y else x)
  first_of_two xs ys x y a c true e = record {
    there = some_right (same_item y) xs ys c.there;
    passes = c.passes;
    none_before = none_both (λ d. p d && is_before d y) xs ys (still xs x y (λ d h. earlier d y x h e) a.none_before)
        c.none_before;
  }
  first_of_two xs ys x y a c false e = record {
    there = some_left (same_item x) xs ys a.there;
    passes = a.passes;
    none_before = none_both (λ d. p d && is_before d x) xs ys a.none_before
        (still ys y x (λ d h. not_later d x y h e) c.none_before);
  }

  -- of two lists one after the other
  pub top_both : (xs ys : List Item) (a b : Option Item) → IsTop p xs a → IsTop p ys b → IsTop p (xs ++ ys) (before a b)
  top_both xs ys None None m n = none_both p xs ys m n
  top_both xs ys None (Some y) m n = record {
    there = some_right (same_item y) xs ys n.there;
    passes = n.passes;
    none_before = none_both (λ d. p d && is_before d y) xs ys (alone xs y m) n.none_before;
  }
  top_both xs ys (Some x) None m n = record {
    there = some_left (same_item x) xs ys m.there;
    passes = m.passes;
    none_before = none_both (λ d. p d && is_before d x) xs ys m.none_before (alone ys x n);
  }
  top_both xs ys (Some x) (Some y) m n = first_of_two xs ys x y m n (is_before y x) refl

  not_itself : (x : Item) → is_before x x ≡ false
  not_itself x = grind (arith, nat_tests)

  -- of one item
  pub top_one : (x : Item) → p x ≡ true → IsTop p (x ∷ []) (Some x)
  top_one x t = record {
    there = or_left (same_item x x) false ((item_decides x x).1 refl);
    passes = t;
    none_before = or_none (p x && is_before x x) false (by (p x)) refl;
  }
    where
      by : (b : Bool) → (b && is_before x x) ≡ false
      by true = not_itself x
      by false = refl

  pub top_none : (x : Item) → p x ≡ false → IsTop p (x ∷ []) None
  top_none x t = or_none (p x) false t refl

  -- of the same items in another order
  pub top_same : (xs ys : List Item) (a : Option Item) → SameItems xs ys → IsTop p ys a → IsTop p xs a
  top_same xs ys None s m = same_any xs ys s p ∙ m
  top_same xs ys (Some x) s m = record {
    there = same_any xs ys s (same_item x) ∙ m.there;
    passes = m.passes;
    none_before = same_any xs ys s (λ d. p d && is_before d x) ∙ m.none_before;
  }

  any_asked : (q : Item → Bool) (xs ys : List Item) → filter p xs ≡ filter p ys
      → list_any (λ e. p e && q e) xs ≡ list_any (λ e. p e && q e) ys
  any_asked q xs ys f = sym (any_filtered p q xs) ∙ (ap (list_any q) f ∙ any_filtered p q ys)

  -- of a list that has the same items that pass
  pub top_filtered : (xs ys : List Item) (a : Option Item) → filter p xs ≡ filter p ys → IsTop p ys a → IsTop p xs a
  top_filtered xs ys None f m = any_all p xs ∙ (ap (list_any (λ _. true)) f ∙ (sym (any_all p ys) ∙ m))
  top_filtered xs ys (Some x) f m = record {
    there = any_weaker (same_item x) (λ e. p e && same_item x e) (λ e h. (and_true (p e) _ h).1) xs
        (any_asked (same_item x) xs ys f
        ∙ any_weaker (λ e. p e && same_item x e) (same_item x)
        (λ e h. and_both (p e) (same_item x e) (sym (ap p ((item_decides x e).0 h)) ∙ m.passes) h) ys m.there);
    passes = m.passes;
    none_before = any_asked (λ e. is_before e x) xs ys f ∙ m.none_before;
  }

-- at one rank the first has the least id
pub least_top : (rank : ℕ) (m : MatchOf) (items : List Item) (x : Item) → IsFirst (is_in_way rank m) items x
    → IsLeastId (is_in_way rank m) items x.id
least_top rank m items x f = record {
  there = any_weaker (λ e. p e && (e.id == x.id)) (same_item x)
      (λ e h. let s = (item_decides x e).0 h in
      and_both (p e) (e.id == x.id) (sym (ap p s) ∙ f.passes) (eq-eqb e.id x.id (ap (λ (z : Item). z.id) (sym s))))
      items f.there;
  none_less = any_stronger (λ e. p e && is_before e x) (λ e. p e && nat_lt e.id x.id)
      (λ e h. let a = and_true (p e) _ h in
      and_both (p e) (is_before e x) a.0
      (or_right (nat_lt x.rank e.rank) _
      (and_both (e.rank == x.rank) (nat_lt e.id x.id)
      (eq-eqb e.rank x.rank (sym (of_rank e a.0) ∙ of_rank x f.passes)) a.1))) items f.none_before;
}
  where
    p : Item → Bool
    p = is_in_way rank m

    of_rank : (e : Item) → is_in_way rank m e ≡ true → rank ≡ e.rank
    of_rank e h = eqb-true rank e.rank (and_true (rank == e.rank) _ h).0
