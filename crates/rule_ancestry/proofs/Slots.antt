-- What is held, where slots change.
use Rattle.std.proofs.Common.{◌≡◌, ◌≢◌, ◌<◌, ◌≤◌, ◌+◌, ◌==◌, inl, inr, Bool, true, false, ◌||◌, ◌&&◌, not, cond, length}
use Rattle.std.proofs.Common.{nat_eq, ℕ, zero, suc, List, [], ◌∷◌, ◌++◌, Option, Some, None, refl, sym, ap, subst, ◌∙◌}
use Rattle.std.proofs.Common.{arith}
use Rattle.std.specs.Prelude.{IsPermutation, IsSome, is_some, count_by, filter, map}
use Rattle.std.proofs.lemmas.Grind.{common_steps}
use Rattle.std.proofs.Math.Nat.{add-suc}
use Rattle.std.proofs.lemmas.Bool.{cases_eq}
use Rattle.std.specs.List.{AllByRecursion, AllZip, list_any}
use Rattle.std.proofs.lemmas.List.Recursion.{is_count_by}
use Rattle.slab.specs.Slab.{IsSlotClone, entries_from}
use Rattle.std.specs.List.Sorted.{IsStrictlySortedBy}
use Rattle.std.specs.Ordering.{nat_cmp, is_eq}
use Rattle.std.specs.declared.cmp.Ordering.TheVariants.{Less}
use Rattle.std.specs.Cmp.{nat_cmp_is}
use Rattle.std.proofs.lemmas.List.Sorted.{IsPermutation-refl, IsPermutation-trans, IsPermutation-sym, IsPermutation-map}
use Rattle.std.proofs.lemmas.List.Sorted.{IsPermutation-cons, IsPermutation-middle}
use Rattle.rule_ancestry.specs.Holding.{Held, id_of, is_other, item_at, item_of, with_item}
use Rattle.rule_ancestry.specs.InsideSlots.{Updated, at, held_from}
use Rattle.rule_ancestry.proofs.StoreLemmas.{eq-same, eq-other}

pub next : (id i : ℕ) → (id + 1) + i ≡ id + suc i
next id i = omega arith

none-more : (i : ℕ) → i + 0 ≡ i
none-more i = omega arith

from-none : (i : ℕ) → 0 + i ≡ i
from-none i = omega arith

pub by-equation : {X : Type 0} (xs ys : List X) → xs ≡ ys → IsPermutation xs ys
by-equation xs ys e = subst (IsPermutation xs) e (IsPermutation-refl xs)

module _ {R : Type 0} where
  abbrev cons : Option R → ℕ → List (Held R) → List (Held R)
  cons None id rest = rest
  cons (Some r) id rest = record { id = id; item = r } ∷ rest

  held-cons : (o : Option R) (id : ℕ) (rest : List (Option R))
      → held_from id (o ∷ rest) ≡ cons o id (held_from (id + 1) rest)
  held-cons None id rest = refl
  held-cons (Some r) id rest = refl

  -- the item, where the test passes
  abbrev pub kept : (ℕ → R → Bool) → ℕ → Option R → Option R
  kept test id None = None
  kept test id (Some r) = cond (test id r) (Some r) None

  -- below the first id nothing stands
  pub none-below : (id : ℕ) (slots : List (Option R)) (i : ℕ) → i < id → item_at (held_from id slots) i ≡ None
  none-below id [] i lt = refl
  none-below id (None ∷ rest) i lt = none-below (id + 1) rest i (omega arith)
  none-below id (Some r ∷ rest) i lt = rw (eq-other id i (omega arith)) (none-below (id + 1) rest i (omega arith))

  -- an id holds what its slot has
  pub found : (id : ℕ) (slots : List (Option R)) (i : ℕ) → item_at (held_from id slots) (id + i) ≡ at slots i
  found id [] i = refl
  found id (None ∷ rest) zero = none-below (id + 1) rest (id + 0) (omega arith)
  found id (None ∷ rest) (suc i) = ap (item_at (held_from (id + 1) rest)) (sym (next id i)) ∙ found (id + 1) rest i
  found id (Some r ∷ rest) zero = rw (eq-same id (id + 0) (omega arith)) refl
  found id (Some r ∷ rest) (suc i) = rw (eq-other id (id + suc i) (omega arith))
      (ap (item_at (held_from (id + 1) rest)) (sym (next id i)) ∙ found (id + 1) rest i)

  -- the same slots, the same items
  pub same-held : (id : ℕ) (old new : List (Option R)) → ((k : ℕ) → at new k ≡ at old k)
      → held_from id new ≡ held_from id old
  same-held id [] [] h = refl
  same-held id [] (None ∷ new) h = same-held (id + 1) [] new (λ k. h (suc k))
  same-held id [] (Some r ∷ new) h = absurd (let e : Some r ≡ None = h 0 in cc)
  same-held id (None ∷ old) [] h = same-held (id + 1) old [] (λ k. h (suc k))
  same-held id (Some r ∷ old) [] h = absurd (let e : None ≡ Some r = h 0 in cc)
  same-held id (o ∷ old) (n ∷ new) h =
      held-cons n id new ∙ ap (λ p. cons p id (held_from (id + 1) new)) (h 0)
      ∙ ap (cons o id) (same-held (id + 1) old new (λ k. h (suc k))) ∙ sym (held-cons o id old)

  pub found-at : (slots : List (Option R)) (i : ℕ) → item_at (held_from 0 slots) i ≡ at slots i
  found-at slots i = ap (item_at (held_from 0 slots)) (sym (from-none i)) ∙ found 0 slots i

  kept-head : (test : ℕ → R → Bool) (id : ℕ) (o n : Option R) (xs ys : List (Held R)) → n ≡ kept test id o
      → ys ≡ filter (λ (h : Held R). test h.id h.item) xs →
      cons n id ys ≡ filter (λ (h : Held R). test h.id h.item) (cons o id xs)
  kept-head test id None n xs ys e f = ap (λ p. cons p id ys) e ∙ f
  kept-head test id (Some r) n xs ys e f = ap (λ p. cons p id ys) e ∙ by-test (test id r) refl
    where
      by-test : (t : Bool) → test id r ≡ t
          → cons (cond t (Some r) None) id ys
          ≡ cond t (record { id = id; item = r } ∷ filter (λ (h : Held R). test h.id h.item) xs)
          (filter (λ (h : Held R). test h.id h.item) xs)
      by-test true s = ap (λ z. record { id = id; item = r } ∷ z) f
      by-test false s = f

  -- the slots that pass a test, the items that do
  pub filtered : (test : ℕ → R → Bool) (id : ℕ) (old new : List (Option R))
      → ((k : ℕ) → at new k ≡ kept test (id + k) (at old k))
      → held_from id new ≡ filter (λ (h : Held R). test h.id h.item) (held_from id old)
  filtered test id [] [] h = refl
  filtered test id [] (None ∷ new) h = filtered test (id + 1) [] new (λ k. h (suc k))
  filtered test id [] (Some r ∷ new) h = absurd (let e : Some r ≡ None = h 0 in cc)
  filtered test id (o ∷ old) [] h =
      kept-head test id o None (held_from (id + 1) old) [] (h 0 ∙ ap (λ j. kept test j o) (none-more id))
      (filtered test (id + 1) old [] (λ k. h (suc k) ∙ ap (λ j. kept test j (at old k)) (sym (next id k))))
      ∙ ap (filter (λ (h : Held R). test h.id h.item)) (sym (held-cons o id old))
  filtered test id (o ∷ old) (n ∷ new) h =
      held-cons n id new
      ∙ kept-head test id o n (held_from (id + 1) old) (held_from (id + 1) new)
      (h 0 ∙ ap (λ j. kept test j o) (none-more id))
      (filtered test (id + 1) old new (λ k. h (suc k) ∙ ap (λ j. kept test j (at old k)) (sym (next id k))))
      ∙ ap (filter (λ (h : Held R). test h.id h.item)) (sym (held-cons o id old))

  under : (o : Option R) (id : ℕ) (h : Held R) (xs ys : List (Held R)) → IsPermutation (h ∷ xs) ys
      → IsPermutation (h ∷ cons o id xs) (cons o id ys)
  under None id h xs ys p = p
  under (Some x) id h xs ys p = IsPermutation-trans _ (record { id = id; item = x } ∷ h ∷ xs) _
      (IsPermutation-middle (h ∷ []) _ xs) (IsPermutation-cons _ (h ∷ xs) ys p)

  -- an item under an id
  abbrev under_id : R → ℕ → Held R
  under_id r id = record { id = id; item = r }

  put-first : (id : ℕ) (old : List (Held R)) (new : List (Option R)) (n : Option R) (r : R) → n ≡ Some r
      → held_from (id + 1) new ≡ old → held_from id (n ∷ new) ≡ under_id r (id + 0) ∷ old
  put-first id old new n r e f =
      held-cons n id new ∙ ap (λ p. cons p id (held_from (id + 1) new)) e ∙ ap (λ z. under_id r id ∷ z) f
      ∙ ap (λ j. under_id r j ∷ old) (sym (none-more id))

  one-more : (id : ℕ) (old new : List (Option R)) (i : ℕ) (r : R) → at old i ≡ None → at new i ≡ Some r
      → ((other : ℕ) → other ≢ i → at new other ≡ at old other)
      → IsPermutation (under_id r (id + i) ∷ held_from id old) (held_from id new)
  one-more id old [] i r e f h = absurd (cc)
  one-more id [] (n ∷ new) zero r e f h =
      by-equation _ _ (sym (put-first id [] new n r f (same-held (id + 1) [] new (λ k. h (suc k) (omega arith)))))
  one-more id (o ∷ old) (n ∷ new) zero r e f h =
      by-equation _ _ (ap (λ z. under_id r (id + 0) ∷ z) (held-cons o id old
      ∙ ap (λ p. cons p id (held_from (id + 1) old)) e)
      ∙ sym (put-first id (held_from (id + 1) old) new n r f
      (same-held (id + 1) old new (λ k. h (suc k) (omega arith)))))
  one-more id [] (n ∷ new) (suc i) r e f h =
      let t = one-more (id + 1) [] new i r refl f (λ k d. h (suc k) (omega arith)) in
      subst (λ z. IsPermutation (under_id r (id + suc i) ∷ []) z)
      (sym (held-cons n id new ∙ ap (λ p. cons p id (held_from (id + 1) new)) (h 0 (omega arith))))
      (subst (λ j. IsPermutation (under_id r j ∷ []) (held_from (id + 1) new)) (next id i) t)
  one-more id (o ∷ old) (n ∷ new) (suc i) r e f h =
      let t = one-more (id + 1) old new i r e f (λ k d. h (suc k) (omega arith)) in
      subst (λ z. IsPermutation (under_id r (id + suc i) ∷ held_from id (o ∷ old)) z)
      (sym (held-cons n id new ∙ ap (λ p. cons p id (held_from (id + 1) new)) (h 0 (omega arith))))
      (subst (λ z. IsPermutation (under_id r (id + suc i) ∷ z) (cons o id (held_from (id + 1) new)))
      (sym (held-cons o id old))
      (under o id (under_id r (id + suc i)) (held_from (id + 1) old) (held_from (id + 1) new)
      (subst (λ j. IsPermutation (under_id r j ∷ held_from (id + 1) old) (held_from (id + 1) new)) (next id i) t)))

  -- one more under an id that held nothing
  pub added-held : (old new : List (Option R)) (id : ℕ) (r : R) → at old id ≡ None → Updated old new id (Some r)
      → IsPermutation (record { id = id; item = r } ∷ held_from 0 old) (held_from 0 new)
  added-held old new id r e u = subst (λ j. IsPermutation (under_id r j ∷ held_from 0 old) (held_from 0 new))
      (from-none id) (one-more 0 old new id r e u.here u.others)

  kept-other : (id k : ℕ) (o : Option R) → k ≢ id → kept (λ j r. not (j == id)) k o ≡ o
  kept-other id k None n = refl
  kept-other id k (Some r) n = rw (eq-other k id (λ e. n (sym e))) refl

  kept-itself : (id k : ℕ) (o : Option R) → k ≡ id → kept (λ j r. not (j == id)) k o ≡ None
  kept-itself id k None e = refl
  kept-itself id k (Some r) e = rw (eq-same k id (sym e)) refl

  -- all others, where an id is left out
  pub left-out : (old new : List (Option R)) (id : ℕ) → at new id ≡ None
      → ((other : ℕ) → other ≢ id → at new other ≡ at old other)
      → held_from 0 new ≡ filter (is_other id) (held_from 0 old)
  left-out old new id e h = filtered (λ j r. not (j == id)) 0 old new (λ k. elim (cases_eq k id) [
    | inl s ↦ ap (at new) s ∙ e ∙ sym (kept-itself id (0 + k) (at old k) (from-none k ∙ s))
    | inr n ↦ h k n ∙ sym (kept-other id (0 + k) (at old k) (λ s. n (sym (from-none k) ∙ s)))
  ])

  -- the ids rise
  ids-above : (i id : ℕ) (slots : List (Option R)) → i < id
      → AllByRecursion (λ j. nat_cmp i j ≡ Less) (map id_of (held_from id slots))
  ids-above i id [] lt = tt
  ids-above i id (None ∷ rest) lt = ids-above i (id + 1) rest (omega arith)
  ids-above i id (Some r ∷ rest) lt = (sym (nat_cmp_is i id Less lt), ids-above i (id + 1) rest (omega arith))

  pub ids-rise : (id : ℕ) (slots : List (Option R)) → IsStrictlySortedBy nat_cmp (map id_of (held_from id slots))
  unfolding IsStrictlySortedBy
  ids-rise id [] = tt
  ids-rise id (None ∷ rest) = ids-rise (id + 1) rest
  ids-rise id (Some r ∷ rest) = (ids-above id (id + 1) rest (omega arith), ids-rise (id + 1) rest)

  -- an item in the place of another
  replaced-after : (id : ℕ) (slots : List (Option R)) (i : ℕ) (item : R) → i < id
      → with_item i item (held_from id slots) ≡ held_from id slots
  replaced-after id [] i item lt = refl
  replaced-after id (None ∷ rest) i item lt = replaced-after (id + 1) rest i item (omega arith)
  replaced-after id (Some r ∷ rest) i item lt =
      rw (eq-other id i (omega arith))
      (ap (λ z. record { id = id; item = r } ∷ z) (replaced-after (id + 1) rest i item (omega arith)))

  with-other : (id j : ℕ) (item : R) (o : Option R) (rest : List (Held R)) → nat_eq id j ≡ false
      → with_item j item (cons o id rest) ≡ cons o id (with_item j item rest)
  with-other id j item None rest e = refl
  with-other id j item (Some r) rest e = rw e refl

  with-same : (id j : ℕ) (item was : R) (o : Option R) (rest : List (Held R)) → o ≡ Some was → j ≡ id
      → with_item j item (cons o id rest) ≡ record { id = id; item = item } ∷ with_item j item rest
  with-same id j item was None rest e s = absurd (cc)
  with-same id j item was (Some r) rest e s =
      rw (eq-same id j s) (ap (λ k. record { id = k; item = item } ∷ with_item j item rest) s)

  replaced : (id : ℕ) (old new : List (Option R)) (i : ℕ) (was item : R) → at old i ≡ Some was → at new i ≡ Some item
      → ((other : ℕ) → other ≢ i → at new other ≡ at old other)
      → held_from id new ≡ with_item (id + i) item (held_from id old)
  replaced id [] new i was item e f h = absurd (cc)
  replaced id (o ∷ old) [] i was item e f h = absurd (cc)
  replaced id (o ∷ old) (n ∷ new) zero was item e f h =
      held-cons n id new ∙ ap (λ p. cons p id (held_from (id + 1) new)) f
      ∙ ap (λ z. record { id = id; item = item } ∷ z) (same-held (id + 1) old new (λ k. h (suc k) (omega arith))
      ∙ sym (replaced-after (id + 1) old (id + 0) item (omega arith)))
      ∙ sym (ap (with_item (id + 0) item) (held-cons o id old)
      ∙ with-same id (id + 0) item was o (held_from (id + 1) old) e (omega arith))
  replaced id (o ∷ old) (n ∷ new) (suc i) was item e f h =
      held-cons n id new ∙ ap (λ p. cons p id (held_from (id + 1) new)) (h 0 (omega arith))
      ∙ ap (cons o id) (replaced (id + 1) old new i was item e f (λ k d. h (suc k) (omega arith))
      ∙ ap (λ j. with_item j item (held_from (id + 1) old)) (next id i))
      ∙ sym (ap (with_item (id + suc i) item) (held-cons o id old)
      ∙ with-other id (id + suc i) item o (held_from (id + 1) old) (eq-other id (id + suc i) (omega arith)))

  pub renamed-held : (old new : List (Option R)) (id : ℕ) (was item : R) → at old id ≡ Some was
      → Updated old new id (Some item) → held_from 0 new ≡ with_item id item (held_from 0 old)
  renamed-held old new id was item e u = replaced 0 old new id was item e u.here u.others
      ∙ ap (λ j. with_item j item (held_from 0 old)) (from-none id)

  -- one less under an id
  pub removed-held : (old new : List (Option R)) (id : ℕ) (r : R) → at old id ≡ Some r → Updated old new id None
      → IsPermutation (under_id r id ∷ held_from 0 new) (held_from 0 old)
  removed-held old new id r e u = added-held new old id r u.here
      (record { here = e; others = λ k d. sym (u.others k d) })

  -- an id that holds nothing is in no way
  pub none-out : (old new : List (Option R)) (id : ℕ) → at old id ≡ None → new ≡ old
      → held_from 0 new ≡ filter (is_other id) (held_from 0 old)
  none-out old new id e same = left-out old new id (ap (λ z. at z id) same ∙ e) (λ k n. ap (λ z. at z k) same)

  longer : (h : Held R) (hs : List (Held R)) → length (h ∷ hs) ≡ 1 + length hs
  longer h hs = grind (arith, common_steps)

  any-first : (i j : ℕ) (slots : List (Option R)) → length (held_from i slots) ≡ length (held_from j slots)
  any-first i j [] = refl
  any-first i j (None ∷ rest) = any-first (i + 1) (j + 1) rest
  any-first i j (Some r ∷ rest) =
      longer (under_id r i) (held_from (i + 1) rest) ∙ ap (λ n. 1 + n) (any-first (i + 1) (j + 1) rest)
      ∙ sym (longer (under_id r j) (held_from (j + 1) rest))

  count-next : (id : ℕ) (o : Option R) (rest : List (Option R))
      → length (held_from id (o ∷ rest)) ≡ cond (is_some o) (1 + length (held_from id rest))
      (length (held_from id rest))
  count-next id None rest = any-first (id + 1) id rest
  count-next id (Some r) rest = longer (under_id r id) (held_from (id + 1) rest)
      ∙ ap (λ n. 1 + n) (any-first (id + 1) id rest)

  pub held-count : (id : ℕ) (slots : List (Option R)) → count_by is_some slots ≡ length (held_from id slots)
  held-count id slots = sym (is_count_by (λ z. length (held_from id z)) is_some refl (count-next id) slots)

  -- the ids of the entries of a slab
  pub entry-ids : (id : ℕ) (slots : List (Option R))
      → map (λ e. e.0) (entries_from id slots) ≡ map id_of (held_from id slots)
  entry-ids id [] = refl
  entry-ids id (None ∷ rest) = entry-ids (id + 1) rest
  entry-ids id (Some r ∷ rest) = ap (λ z. id ∷ z) (entry-ids (id + 1) rest)

  slot-cloned : (o copy : Option R) → IsSlotClone (λ a b. b ≡ a) o copy → copy ≡ o
  slot-cloned None copy e = e
  slot-cloned (Some r) None e = absurd e
  slot-cloned (Some r) (Some s) e = ap Some e

  -- the slots of a copy
  pub slots-cloned : (slots copy : List (Option R)) → AllZip (IsSlotClone (λ a b. b ≡ a)) slots copy → copy ≡ slots
  slots-cloned [] [] h = refl
  slots-cloned [] (c ∷ copy) h = absurd h
  slots-cloned (o ∷ slots) [] h = absurd h
  slots-cloned (o ∷ slots) (c ∷ copy) h = ap (λ z. z ∷ copy) (slot-cloned o c h.0)
      ∙ ap (λ z. o ∷ z) (slots-cloned slots copy h.1)

-- ---- a call, over the value that it began with
module _ {R : Type 0} (now : List (Held R)) (slots : List (Option R)) (view : held_from 0 slots ≡ now) where
  pub got : (id : ℕ) (o : Option R) → o ≡ at slots id → o ≡ item_at now id
  got id o e = e ∙ sym (found-at slots id) ∙ ap (λ h. item_at h id) view

  pub rising-now : IsStrictlySortedBy nat_cmp (map id_of now)
  rising-now = subst (λ h. IsStrictlySortedBy nat_cmp (map id_of h)) view (ids-rise 0 slots)

  pub count-now : (n : ℕ) → n ≡ count_by is_some slots → n ≡ length now
  count-now n e = e ∙ held-count 0 slots ∙ ap length view

  module _ (more : List (Option R)) (same : more ≡ slots) (id : ℕ) (vacant : at more id ≡ None) where
    pub fresh-now : item_at now id ≡ None
    fresh-now = sym (got id None (sym vacant ∙ ap (λ z. at z id) same))

    pub added-now : (new : List (Option R)) (r : R) → Updated more new id (Some r)
        → IsPermutation (under_id r id ∷ now) (held_from 0 new)
    added-now new r u = subst (λ h. IsPermutation (under_id r id ∷ h) (held_from 0 new)) (ap (held_from 0) same ∙ view)
        (added-held more new id r vacant u)

    pub others-now : (new : List (Option R)) (r : R) → Updated more new id (Some r)
        → filter (is_other id) (held_from 0 new) ≡ now
    others-now new r u = sym (left-out new more id vacant (λ k n. sym (u.others k n))) ∙ ap (held_from 0) same ∙ view

  pub none-now : (id : ℕ) → None ≡ at slots id → now ≡ filter (is_other id) now
  none-now id e = subst (λ h. h ≡ filter (is_other id) h) view (none-out slots slots id (sym e) refl)

  pub rest-now : (new : List (Option R)) (id : ℕ) → Updated slots new id None
      → held_from 0 new ≡ filter (is_other id) now
  rest-now new id u = left-out slots new id u.here u.others ∙ ap (filter (is_other id)) view

  pub moved-now : (new : List (Option R)) (id : ℕ) (r : R) → Some r ≡ at slots id → Updated slots new id None
      → IsPermutation (map item_of now) (r ∷ map item_of (held_from 0 new))
  moved-now new id r e u =
      IsPermutation-sym _ _ (subst (λ h. IsPermutation (r ∷ map item_of (held_from 0 new)) (map item_of h)) view
      (IsPermutation-map item_of _ _ (removed-held slots new id r (sym e) u)))

  pub renamed-now : (new : List (Option R)) (id : ℕ) (was item : R) → at slots id ≡ Some was
      → Updated slots new id (Some item) → held_from 0 new ≡ with_item id item now
  renamed-now new id was item e u = renamed-held slots new id was item e u ∙ ap (with_item id item) view

  pub there-now : (id : ℕ) → IsSome (item_at now id) → IsSome (at slots id)
  there-now id s = subst IsSome (sym (got id (at slots id) refl)) s
