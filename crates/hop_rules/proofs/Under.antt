-- What is held under some ids, and loops over ids.
use Rattle.std.proofs.Common.{◌≡◌, ℕ, ◌+◌, ◌<◌, ◌≤◌, ◌==◌, Bool, true, false, cond, List, [], ◌∷◌, ◌++◌, Option, Some}
use Rattle.std.proofs.Common.{None, length, get_or, take, drop, map, refl, sym, ap, subst, ◌∙◌, append_assoc, arith}
use Rattle.std.specs.Prelude.{IsPermutation}
use Rattle.std.specs.List.{AllByRecursion}
use Rattle.std.specs.List.Sorted.{IsStrictlySortedBy}
use Rattle.std.specs.Ordering.{nat_cmp}
use Rattle.std.proofs.lemmas.Grind.{flat_map-append}
use Rattle.std.proofs.lemmas.List.{append-nil, take-append-drop, take_all, take_more}
use Rattle.std.proofs.lemmas.List.Sorted.{IsPermutation-append_left, IsPermutation-trans}
use Rattle.list_change.proofs.Permute.{by-equation, permuted-flat_map}
use Rattle.policy_meaning.proofs.Rising.{all-permuted}
use Rattle.rule_ancestry.specs.Holding.{Held, id_of, item_at, item_of}
use Rattle.rule_ancestry.proofs.Lists.{found-all}
use Rattle.hop_rules.proofs.Names.{is-same}
use Rattle.hop_rules.specs.Under.{AreFound, held_under, one_held, under}

all-first : {A : Type 0} (P : A → Type 0) (xs ys : List A) → AllByRecursion P (xs ++ ys) → AllByRecursion P xs
all-first P [] ys a = tt
all-first P (x ∷ xs) ys a = (a.0, all-first P xs ys a.1)

module _ {R : Type 0} where
  pub held-some : (held : List (Held R)) (id : ℕ) (r : R) → item_at held id ≡ Some r
      → held_under held id ≡ record { id = id; item = r } ∷ []
  held-some held id r e = ap (one_held id) e

  pub held-none : (held : List (Held R)) (id : ℕ) → item_at held id ≡ None → held_under held id ≡ []
  held-none held id e = ap (one_held id) e

  pick-cond : (P : Held R → Type 0) (h : Held R) (id : ℕ) (r : R) (o : Option R) (t : Bool) → (h.id == id) ≡ t → P h
      → (o ≡ Some r → P (record { id = id; item = r })) → cond t (Some h.item) o ≡ Some r
      → P (record { id = id; item = r })
  pick-cond P h id r o true e p f s =
      let i : h.item ≡ r = cc in
      let k : h.id ≡ id = is-same h.id id e in
      let same : h ≡ record { id = id; item = r } = λ j. record { id = k j; item = i j } in
      subst P same p
  pick-cond P h id r o false e p f s = f s

  -- what holds of all that is held holds of what an id holds
  pub picked : (P : Held R → Type 0) (held : List (Held R)) (id : ℕ) (r : R) → AllByRecursion P held
      → item_at held id ≡ Some r → P (record { id = id; item = r })
  picked P [] id r a e = absurd (cc)
  picked P (h ∷ held) id r a e = pick-cond P h id r (item_at held id) (h.id == id) refl a.0 (picked P held id r a.1) e

  -- each is found under its id
  pub part-found : (held a b : List (Held R)) → IsStrictlySortedBy nat_cmp (map id_of held)
      → IsPermutation held (a ++ b) → AreFound held a
  part-found held a b s h =
      all-first _ a b (all-permuted held (a ++ b) h (λ (x : Held R). item_at held x.id ≡ Some x.item)
      (found-all held s))

  pub under-ids : (held hs : List (Held R)) → AreFound held hs → under held (map id_of hs) ≡ hs
  under-ids held [] a = refl
  under-ids held (h ∷ hs) a = ap (λ z. z ++ under held (map id_of hs)) (held-some held h.id h.item a.0)
      ∙ ap (λ z. h ∷ z) (under-ids held hs a.1)

  -- all that is held
  pub under-itself : (held : List (Held R)) → IsStrictlySortedBy nat_cmp (map id_of held)
      → under held (map id_of held) ≡ held
  under-itself held up = under-ids held held (found-all held up)

  -- the item of an id, if there is one
  pub item-added : (held : List (Held R)) (id : ℕ) (r : R) (old : List R) → item_at held id ≡ Some r
      → old ++ r ∷ [] ≡ old ++ map item_of (held_under held id)
  item-added held id r old e = ap (λ z. old ++ map item_of z) (sym (held-some held id r e))

  pub none-added : (held : List (Held R)) (id : ℕ) (old : List R) → item_at held id ≡ None
      → old ≡ old ++ map item_of (held_under held id)
  none-added held id old e = sym (append-nil old) ∙ ap (λ z. old ++ map item_of z) (sym (held-none held id e))

  pub under-permuted : (held : List (Held R)) (ids js : List ℕ) → IsPermutation ids js
      → IsPermutation (under held ids) (under held js)
  under-permuted held ids js p = permuted-flat_map (held_under held) ids js p

  pub under-none : (held : List (Held R)) (ids : List ℕ) → held ≡ [] → under held ids ≡ []
  under-none held [] e = refl
  under-none held (id ∷ ids) e = ap (λ (z : List (Held R)). held_under z id ++ under held ids) e ∙ under-none held ids e

  -- one id more
  pub under-more : (held : List (Held R)) (ids : List ℕ) (i d : ℕ) → i < length ids
      → under held (take (i + 1) ids) ≡ under held (take i ids) ++ held_under held (get_or ids i d)
  under-more held ids i d lt =
      ap (under held) (take_more ids i d lt)
      ∙ flat_map-append (held_under held) (take i ids) (get_or ids i d ∷ [])
      ∙ ap (λ z. under held (take i ids) ++ z) (append-nil (held_under held (get_or ids i d)))

  pub under-all : (held : List (Held R)) (ids : List ℕ) (i : ℕ) → length ids ≤ i
      → under held (take i ids) ≡ under held ids
  under-all held ids i le = ap (under held) (take_all i ids le)

module _ {R C : Type 0} (G : List (Held R) → List C) (law : (xs ys : List (Held R))
    → G (xs ++ ys) ≡ G xs ++ G ys) (held : List (Held R)) (ids : List ℕ) (i d : ℕ) (lt : i < length ids) where
  made-on : (old : List C) → (old ++ G (under held (take i ids))) ++ G (held_under held (get_or ids i d))
      ≡ old ++ G (under held (take (i + 1) ids))
  made-on old =
      append_assoc old (G (under held (take i ids))) (G (held_under held (get_or ids i d)))
      ∙ ap (λ z. old ++ z) (sym (law (under held (take i ids)) (held_under held (get_or ids i d)))
      ∙ ap G (sym (under-more held ids i d lt)))

  -- a loop makes what the rules of its ids make
  pub made-more : (old out new : List C) → out ≡ old ++ G (under held (take i ids))
      → new ≡ out ++ G (held_under held (get_or ids i d)) → new ≡ old ++ G (under held (take (i + 1) ids))
  made-more old out new far now = now ∙ ap (λ z. z ++ G (held_under held (get_or ids i d))) far ∙ made-on old

  pub perm-more : (old out new : List C) → IsPermutation out (old ++ G (under held (take i ids)))
      → IsPermutation new (out ++ G (held_under held (get_or ids i d)))
      → IsPermutation new (old ++ G (under held (take (i + 1) ids)))
  perm-more old out new far now =
      IsPermutation-trans _ _ _ now
      (IsPermutation-trans _ _ _ (IsPermutation-append_left (G (held_under held (get_or ids i d))) _ _ far)
      (by-equation _ _ (made-on old)))

module _ {R : Type 0} (N : List (Held R) → ℕ) (law : (xs ys : List (Held R))
    → N (xs ++ ys) ≡ N xs + N ys) (held : List (Held R)) (ids : List ℕ) (i d : ℕ) (lt : i < length ids) where
  -- and takes their steps
  pub steps-more : (old far new : ℕ) → far ≤ old + N (under held (take i ids))
      → new ≤ far + N (held_under held (get_or ids i d)) → new ≤ old + N (under held (take (i + 1) ids))
  steps-more old far new p q =
      let e = ap N (under-more held ids i d lt) in
      let l = law (under held (take i ids)) (held_under held (get_or ids i d)) in
      omega arith

  -- also where it ends there
  pub steps-ended : (old far new : ℕ) → far ≤ old + N (under held (take i ids))
      → new ≤ far + N (held_under held (get_or ids i d)) → new ≤ old + N (under held ids)
  steps-ended old far new p q =
      let some = steps-more old far new p q in
      let parts = ap (λ (js : List ℕ). N (under held js)) (sym (take-append-drop (i + 1) ids))
      ∙ ap N (flat_map-append (held_under held) (take (i + 1) ids) (drop (i + 1) ids))
      ∙ law (under held (take (i + 1) ids)) (under held (drop (i + 1) ids)) in
      omega arith
