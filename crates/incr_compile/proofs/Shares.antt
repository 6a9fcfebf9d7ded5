-- What a node keeps where some rules of an operand go.
use Rattle.std.proofs.Common.{◌≡◌, ℕ, ◌==◌, Bool, true, false, not, cond, ◌||◌, List, [], ◌∷◌, Option, Some, None}
use Rattle.std.proofs.Common.{map, refl, ap, subst, ◌∙◌}
use Rattle.std.specs.Prelude.{IsPermutation, filter, option_map}
use Rattle.std.specs.List.{list_any}
use Rattle.list_change.specs.Pairing.{made}
use Rattle.list_change.proofs.Kept.{made-without_left, made-without_right}
use Rattle.list_change.proofs.Permute.{Perm, nil, skip, turn, next, by-cases}
use Rattle.op_compose.specs.declared.op.Op.{Op}
use Rattle.policy_meaning.specs.declared.rule.Rule.{Rule}
use Rattle.rule_ancestry.specs.Holding.{Held, is_outside, item_of}
use Rattle.made_rules.specs.Rules.{is_one_of, rule_held, rules_in}
use Rattle.made_rules.specs.declared.made.Made.{Made}
use Rattle.incr_compile.specs.Ways.{held_way, is_not_of, left_origin, made_with, right_origin}

-- ---- which origins are among some of one side
or-none : (a : Bool) → (a || false) ≡ a
or-none true = refl
or-none false = refl

left-among : (i : ℕ) (ids : List ℕ) → is_one_of (map left_origin ids) (left_origin i) ≡ list_any (λ j. i == j) ids
left-among i [] = refl
left-among i (j ∷ ids) = ap (λ b. (i == j) || b) (left-among i ids)

left-not-right : (i : ℕ) (ids : List ℕ) → is_one_of (map left_origin ids) (right_origin i) ≡ false
left-not-right i [] = refl
left-not-right i (j ∷ ids) = left-not-right i ids

right-among : (i : ℕ) (ids : List ℕ) → is_one_of (map right_origin ids) (right_origin i) ≡ list_any (λ j. i == j) ids
right-among i [] = refl
right-among i (j ∷ ids) = ap (λ b. (i == j) || b) (right-among i ids)

right-not-left : (i : ℕ) (ids : List ℕ) → is_one_of (map right_origin ids) (left_origin i) ≡ false
right-not-left i [] = refl
right-not-left i (j ∷ ids) = right-not-left i ids

of-option : (f : Rule → Made) (P : Made → Type 0) → ((r : Rule) → P (f r)) → (o : Option Rule) (c : Made)
    → option_map f o ≡ Some c → P c
of-option f P h None c e = absurd (cc)
of-option f P h (Some r) c e = let s : f r ≡ c = cc in subst P s (h r)

module _ (op : Op) (size : ℕ) (ids : List ℕ) where
  -- without some of the left: what was made of them goes, and nothing else
  pub made-without-lefts : (lefts rights : List (Held Rule))
      → filter (is_not_of (map left_origin ids)) (made (held_way op size) lefts rights)
      ≡ made (held_way op size) (filter (is_outside ids) lefts) rights
  made-without-lefts lefts rights =
      made-without_left (held_way op size) (is_not_of (map left_origin ids)) (is_outside ids)
      (λ a c e. of-option (made_with (left_origin a.id ∷ []))
      (λ m. is_not_of (map left_origin ids) m ≡ is_outside ids a)
      (λ r. ap not (or-none (is_one_of (map left_origin ids) (left_origin a.id)) ∙ left-among a.id ids)) _ c e)
      (λ a b c e. of-option (made_with (left_origin a.id ∷ right_origin b.id ∷ []))
      (λ m. is_not_of (map left_origin ids) m ≡ is_outside ids a)
      (λ r. ap not (ap (λ z. is_one_of (map left_origin ids) (left_origin a.id) || (z || false))
      (left-not-right b.id ids) ∙ or-none (is_one_of (map left_origin ids) (left_origin a.id))
      ∙ left-among a.id ids)) _ c e)
      (λ b c e. of-option (made_with (right_origin b.id ∷ [])) (λ m. is_not_of (map left_origin ids) m ≡ true)
      (λ r. ap not (ap (λ z. z || false) (left-not-right b.id ids))) _ c e)
      lefts rights

  pub made-without-rights : (lefts rights : List (Held Rule))
      → filter (is_not_of (map right_origin ids)) (made (held_way op size) lefts rights)
      ≡ made (held_way op size) lefts (filter (is_outside ids) rights)
  made-without-rights lefts rights =
      made-without_right (held_way op size) (is_not_of (map right_origin ids)) (is_outside ids)
      (λ a c e. of-option (made_with (left_origin a.id ∷ [])) (λ m. is_not_of (map right_origin ids) m ≡ true)
      (λ r. ap not (ap (λ z. z || false) (right-not-left a.id ids))) _ c e)
      (λ a b c e. of-option (made_with (left_origin a.id ∷ right_origin b.id ∷ []))
      (λ m. is_not_of (map right_origin ids) m ≡ is_outside ids b)
      (λ r. ap not (ap (λ z. z || (is_one_of (map right_origin ids) (right_origin b.id) || false))
      (right-not-left a.id ids) ∙ or-none (is_one_of (map right_origin ids) (right_origin b.id))
      ∙ right-among b.id ids)) _ c e)
      (λ b c e. of-option (made_with (right_origin b.id ∷ []))
      (λ m. is_not_of (map right_origin ids) m ≡ is_outside ids b)
      (λ r. ap not (or-none (is_one_of (map right_origin ids) (right_origin b.id)) ∙ right-among b.id ids)) _ c e)
      lefts rights

-- ---- ids that are left out in any order
swapped : (a b c : Bool) → (a || (b || c)) ≡ (b || (a || c))
swapped true true c = refl
swapped true false c = refl
swapped false true c = refl
swapped false false c = refl

module _ {X : Type 0} (p : X → Bool) where
  any-perm : {xs ys : List X} → Perm xs ys → list_any p xs ≡ list_any p ys
  any-perm nil = refl
  any-perm (skip {xs = xs} {ys = ys} x q) = ap (λ b. p x || b) (any-perm q)
  any-perm (turn x y xs) = swapped (p x) (p y) (list_any p xs)
  any-perm (next q r) = any-perm q ∙ any-perm r

  any-turned : (xs ys : List X) → IsPermutation xs ys → list_any p xs ≡ list_any p ys
  any-turned xs ys h = any-perm (by-cases xs ys h)

same-filter : {R : Type 0} (p q : Held R → Bool) → ((h : Held R) → p h ≡ q h) → (hs : List (Held R))
    → filter p hs ≡ filter q hs
same-filter p q e [] = refl
same-filter p q e (h ∷ hs) = ap (λ b. cond b (h ∷ filter p hs) (filter p hs)) (e h)
    ∙ ap (λ z. cond (q h) (h ∷ z) z) (same-filter p q e hs)

pub outside-turned : {R : Type 0} (us vs : List ℕ) (hs : List (Held R)) → IsPermutation us vs
    → filter (is_outside us) hs ≡ filter (is_outside vs) hs
outside-turned us vs hs p = same-filter (is_outside us) (is_outside vs)
    (λ h. ap not (any-turned (λ j. h.id == j) us vs p)) hs

-- ---- items and rules of what passes a test
pub filter-items : (p : Made → Bool) (hs : List (Held Made))
    → map item_of (filter (λ h. p h.item) hs) ≡ filter p (map item_of hs)
filter-items p [] = refl
filter-items p (h ∷ hs) = by (p h.item) ∙ ap (λ z. cond (p h.item) (h.item ∷ z) z) (filter-items p hs)
  where
    by : (b : Bool) → map item_of (cond b (h ∷ filter (λ h. p h.item) hs) (filter (λ h. p h.item) hs))
        ≡ cond b (h.item ∷ map item_of (filter (λ h. p h.item) hs)) (map item_of (filter (λ h. p h.item) hs))
    by true = refl
    by false = refl

pub filter-rules : (ids : List ℕ) (hs : List (Held Made))
    → rules_in (filter (is_outside ids) hs) ≡ filter (is_outside ids) (rules_in hs)
filter-rules ids [] = refl
filter-rules ids (h ∷ hs) = by (is_outside ids h)
    ∙ ap (λ z. cond (is_outside ids h) (rule_held h ∷ z) z) (filter-rules ids hs)
  where
    by : (b : Bool) → rules_in (cond b (h ∷ filter (is_outside ids) hs) (filter (is_outside ids) hs))
        ≡ cond b (rule_held h ∷ rules_in (filter (is_outside ids) hs)) (rules_in (filter (is_outside ids) hs))
    by true = refl
    by false = refl
