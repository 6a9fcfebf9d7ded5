-- What happens to the sums of leaves, one after the other.
use Rattle.std.proofs.Common.{◌≡◌, ℕ, zero, suc, ◌+◌, ◌<◌, Bool, true, false, ◌||◌, List, [], ◌∷◌, length, get_or, take}
use Rattle.std.proofs.Common.{refl, sym, ap, subst, ◌∙◌, arith, true≢false}
use Rattle.std.specs.Prelude.{IfSome, if◌then◌else◌, not, option_and_then}
use Rattle.std.specs.List.{list_any}
use Rattle.cv_io.specs.Leaves.{same_leaf}
use Rattle.cv_io.specs.declared.leaf.Leaf.{Leaf}
use Rattle.switch_meaning.proofs.Alike.{leaf_decides}
use Rattle.stats_map.specs.InsideSums.{Allows, AllowsEach, HappenedTo, Sums, changed_by, sum_at}
use Rattle.stats_map.specs.declared.sum.Event.{Event}

-- one more of a list
pub any-next : {X : Type 0} (test : X → Bool) (xs : List X) (i : ℕ) (x : X) → i < length xs → x ≡ get_or xs i x
    → list_any test (take (i + 1) xs) ≡ (list_any test (take i xs) || test x)
any-next test [] i x lt e = absurd (omega arith)
any-next test (y ∷ ys) zero x lt e =
    let one : 0 + 1 ≡ suc 0 = omega arith in
    ap (λ n. list_any test (take n (y ∷ ys))) one ∙ (no-more (test y) ∙ ap test (sym e))
  where
    no-more : (b : Bool) → (b || false) ≡ b
    no-more true = refl
    no-more false = refl
any-next test (y ∷ ys) (suc i) x lt e =
    let next : suc i + 1 ≡ suc (i + 1) = omega arith in
    ap (λ n. list_any test (take n (y ∷ ys))) next
    ∙ (ap (λ b. test y || b) (any-next test ys i x (omega arith) e)
    ∙ grouped (test y) (list_any test (take i ys)) (test x))
  where
    grouped : (a b c : Bool) → (a || (b || c)) ≡ ((a || b) || c)
    grouped true b c = refl
    grouped false b c = refl

-- one leaf more
pub any-more : (q : Leaf) (xs : List Leaf) (i : ℕ) (x : Leaf) → i < length xs → x ≡ get_or xs i x
    → list_any (same_leaf q) (take (i + 1) xs) ≡ (list_any (same_leaf q) (take i xs) || same_leaf q x)
any-more q xs i x lt e = any-next (same_leaf q) xs i x lt e

-- a leaf of the list
pub any-at : (xs : List Leaf) (i : ℕ) (x : Leaf) → i < length xs → x ≡ get_or xs i x → list_any (same_leaf x) xs ≡ true
any-at [] i x lt e = absurd (omega arith)
any-at (y ∷ ys) zero x lt e = ap (λ b. b || list_any (same_leaf x) ys) ((leaf_decides x y).1 e)
any-at (y ∷ ys) (suc i) x lt e = later (same_leaf x y) (any-at ys i x (omega arith) e)
  where
    later : (b : Bool) → list_any (same_leaf x) ys ≡ true → (b || list_any (same_leaf x) ys) ≡ true
    later true t = refl
    later false t = t

pub flips : (a b : Leaf) → same_leaf a b ≡ same_leaf b a
flips a b = by (same_leaf a b) (same_leaf b a) (λ t. (leaf_decides b a).1 (sym ((leaf_decides a b).0 t)))
    (λ t. (leaf_decides a b).1 (sym ((leaf_decides b a).0 t)))
  where
    by : (x y : Bool) → (x ≡ true → y ≡ true) → (y ≡ true → x ≡ true) → x ≡ y
    by true y f g = sym (f refl)
    by false true f g = g refl
    by false false f g = refl

module _ (event : Event) (xs : List Leaf) (i : ℕ) (x : Leaf) (lt : i < length xs) (is : x ≡ get_or xs i x)
    (old now : Sums) (so_far : HappenedTo event (take i xs) old now) where
  -- the sum of a leaf that stood at no earlier place is as it was
  pub untouched : list_any (same_leaf x) (take i xs) ≡ false → sum_at x now ≡ sum_at x old
  untouched n = so_far x ∙ ap (λ b. if b then option_and_then (changed_by event) (sum_at x old) else sum_at x old) n

  pub is-allowed : AllowsEach event xs old → list_any (same_leaf x) (take i xs) ≡ false
      → IfSome (sum_at x now) (Allows event)
  is-allowed a n = subst (λ o. IfSome o (Allows event)) (sym (untouched n)) (a x (any-at xs i x lt is))

  -- it happens to a leaf that stood at no earlier place
  pub happened-first : (new : Sums) → list_any (same_leaf x) (take i xs) ≡ false
      → ((q : Leaf)
      → sum_at q new ≡ (if same_leaf x q then option_and_then (changed_by event) (sum_at x now) else sum_at q now))
      → HappenedTo event (take (i + 1) xs) old new
  happened-first new n one q = by (same_leaf x q) refl
    where
      by : (b : Bool) → same_leaf x q ≡ b
          → sum_at q new ≡ (if list_any (same_leaf q) (take (i + 1) xs)
          then option_and_then (changed_by event) (sum_at q old) else sum_at q old)
      by true t =
          let key : x ≡ q = (leaf_decides x q).0 t in
          let any : list_any (same_leaf q) (take (i + 1) xs) ≡ true = any-more q xs i x lt is
          ∙ or-right (list_any (same_leaf q) (take i xs)) (same_leaf q x) (flips q x ∙ t) in
          one q
          ∙ (ap (λ b. if b then option_and_then (changed_by event) (sum_at x now) else sum_at q now) t
          ∙ (ap (option_and_then (changed_by event)) (untouched n ∙ ap (λ z. sum_at z old) key)
          ∙ sym (ap (λ b. if b then option_and_then (changed_by event) (sum_at q old) else sum_at q old) any)))
        where
          or-right : (a b : Bool) → b ≡ true → (a || b) ≡ true
          or-right true b t = refl
          or-right false b t = t
      by false t =
          let any : list_any (same_leaf q) (take (i + 1) xs) ≡ list_any (same_leaf q) (take i xs) =
          any-more q xs i x lt is ∙ or-none (list_any (same_leaf q) (take i xs)) (same_leaf q x) (flips q x ∙ t) in
          one q
          ∙ (ap (λ b. if b then option_and_then (changed_by event) (sum_at x now) else sum_at q now) t
          ∙ (so_far q
          ∙ sym (ap (λ b. if b then option_and_then (changed_by event) (sum_at q old) else sum_at q old) any)))
        where
          or-none : (a b : Bool) → b ≡ false → (a || b) ≡ a
          or-none true b t = refl
          or-none false b t = t

  -- nothing more happens to one that did
  pub happened-again : list_any (same_leaf x) (take i xs) ≡ true → HappenedTo event (take (i + 1) xs) old now
  happened-again y q = so_far q
      ∙ sym (ap (λ b. if b then option_and_then (changed_by event) (sum_at q old) else sum_at q old) same)
    where
      or-kept : (a b : Bool) → (b ≡ true → a ≡ true) → (a || b) ≡ a
      or-kept true b f = refl
      or-kept false true f = sym (f refl)
      or-kept false false f = refl

      same : list_any (same_leaf q) (take (i + 1) xs) ≡ list_any (same_leaf q) (take i xs)
      same = any-more q xs i x lt is
          ∙ or-kept (list_any (same_leaf q) (take i xs)) (same_leaf q x)
          (λ t. ap (λ z. list_any (same_leaf z) (take i xs)) ((leaf_decides q x).0 t) ∙ y)

pub happened-none : (event : Event) (sums : Sums) → HappenedTo event [] sums sums
happened-none event sums q = refl

pub not-true : (b : Bool) → not b ≡ true → b ≡ false
not-true true e = cc
not-true false e = refl

pub not-false : (b : Bool) → not b ≡ false → b ≡ true
not-false true e = refl
not-false false e = cc

-- what held of the leaves so far and holds of one leaf more
pub one-more-have : (xs : List Leaf) (i : ℕ) (x : Leaf) (P Q : Leaf → Type 0) → i < length xs → x ≡ get_or xs i x
    → ((q : Leaf) → P q → Q q) → Q x
    → ((q : Leaf) → list_any (same_leaf q) (take i xs) ≡ true → P q) → (q : Leaf)
    → list_any (same_leaf q) (take (i + 1) xs) ≡ true → Q q
one-more-have xs i x P Q lt is stay now before q t =
    by (list_any (same_leaf q) (take i xs)) refl (same_leaf q x) refl (sym (any-more q xs i x lt is) ∙ t)
  where
    by : (b : Bool) → list_any (same_leaf q) (take i xs) ≡ b → (d : Bool) → same_leaf q x ≡ d
        → (list_any (same_leaf q) (take i xs) || same_leaf q x) ≡ true → Q q
    by true e d f u = stay q (before q e)
    by false e true f u = subst Q (sym ((leaf_decides q x).0 f)) now
    by false e false f u = absurd (true≢false (sym u ∙ (ap (λ b. b || same_leaf q x) e ∙ f)))
