-- Lists of what is held: some ids left out, some items added.
use Rattle.std.proofs.Common.{◌≡◌, ◌<◌, ◌+◌, ◌==◌, ◌||◌, ◌&&◌, Bool, true, false, not, cond, length, get_or, take}
use Rattle.std.proofs.Common.{nat_eq, inl, inr, arith, ℕ, List, [], ◌∷◌, ◌++◌, refl, sym, ap, subst, ◌∙◌, append_assoc}
use Rattle.std.specs.Prelude.{IsPermutation, filter, map, option_to_list, Option, Some, None}
use Rattle.std.specs.List.{AllByRecursion, list_any}
use Rattle.std.specs.List.Sorted.{IsStrictlySortedBy}
use Rattle.std.specs.Ordering.{nat_cmp, is_eq, ordering_reverse, ordering_then}
use Rattle.std.specs.declared.cmp.Ordering.{Ordering}
use Rattle.std.specs.declared.cmp.Ordering.TheVariants.{Less, Equal, Greater}
use Rattle.std.specs.Cmp.{nat_cmp_is, IsTotalOrder}
use Rattle.std.specs.BTreeMap.{is_at}
use Rattle.std.proofs.lemmas.Cmp.{nat_cmp_total}
use Rattle.std.proofs.lemmas.List.{length-append}
use Rattle.std.proofs.lemmas.Bool.{cases_eq}
use Rattle.std.proofs.lemmas.Grind.{common_steps}
use Rattle.std.proofs.lemmas.List.Folds.{list_any_more, list_any-append}
use Rattle.std.proofs.lemmas.List.Sorted.{IsPermutation-refl, IsPermutation-sym, IsPermutation-trans}
use Rattle.std.proofs.lemmas.List.Sorted.{IsPermutation-append_right, IsPermutation-cons, IsPermutation-middle}
use Rattle.rule_ancestry.specs.Holding.{Held, held_as, id_of, is_other, is_outside, item_at}
use Rattle.rule_ancestry.specs.InsideSlots.{AddsOne}
use Rattle.rule_ancestry.specs.InsideLinks.{by_link}
use Rattle.rule_ancestry.specs.declared.links.Link.{Link}
use Rattle.rule_ancestry.proofs.Slots.{by-equation}
use Rattle.rule_ancestry.proofs.StoreLemmas.{eq-same, eq-other}

module _ {A : Type 0} (p q r : A → Bool) (same : (x : A) → r x ≡ (q x && p x)) where
  both-tests : (t u : Bool) (x : A) (xs : List A) → q x ≡ t → p x ≡ u → filter p (filter q xs) ≡ filter r xs
      → filter p (filter q (x ∷ xs)) ≡ filter r (x ∷ xs)
  both-tests true true x xs e f h = rw (e, f, same x) (rw (e, f) (ap (λ z. x ∷ z) h))
  both-tests true false x xs e f h = rw (e, f, same x) (rw (e, f) h)
  both-tests false u x xs e f h = rw (e, same x) (rw e h)

  -- by one test, and then by another
  pub filter-both : (xs : List A) → filter p (filter q xs) ≡ filter r xs
  filter-both [] = refl
  filter-both (x ∷ xs) = both-tests (q x) (p x) x xs refl refl (filter-both xs)

pub filter-all : {A : Type 0} (xs : List A) → filter (λ x. true) xs ≡ xs
filter-all [] = refl
filter-all (x ∷ xs) = ap (λ z. x ∷ z) (filter-all xs)

none-or : (a b : Bool) → not (a || b) ≡ (not a && not b)
none-or true b = refl
none-or false b = refl

or-none : (a : Bool) → (a || false) ≡ a
or-none true = refl
or-none false = refl

module _ {R : Type 0} where
  pub outside-none : (xs : List (Held R)) → filter (is_outside []) xs ≡ xs
  outside-none xs = filter-all xs

  -- one id more is left out
  pub outside-more : (ids : List ℕ) (i d : ℕ) (xs : List (Held R)) → i < length ids
      → filter (is_other (get_or ids i d)) (filter (is_outside (take i ids)) xs)
      ≡ filter (is_outside (take (i + 1) ids)) xs
  outside-more ids i d xs lt =
      filter-both (is_other (get_or ids i d)) (is_outside (take i ids)) (is_outside (take (i + 1) ids))
      (λ h. ap not (list_any_more (λ id. h.id == id) ids i d lt)
      ∙ none-or (list_any (λ id. h.id == id) (take i ids)) (h.id == get_or ids i d)) xs

  pub outside-step : (ids : List ℕ) (i d : ℕ) (first old new : List (Held R)) → i < length ids
      → old ≡ filter (is_outside (take i ids)) first → new ≡ filter (is_other (get_or ids i d)) old
      → new ≡ filter (is_outside (take (i + 1) ids)) first
  outside-step ids i d first old new lt far now = now ∙ ap (filter (is_other (get_or ids i d))) far
      ∙ outside-more ids i d first lt

  -- one id more that was given out
  pub outside-last : (ids : List ℕ) (id : ℕ) (xs : List (Held R))
      → filter (is_outside (ids ++ id ∷ [])) xs ≡ filter (is_outside ids) (filter (is_other id) xs)
  outside-last ids id xs =
      sym (filter-both (is_outside ids) (is_other id) (is_outside (ids ++ id ∷ []))
      (λ h. ap not (list_any-append (λ j. h.id == j) ids (id ∷ [])
      ∙ ap (λ b. list_any (λ j. h.id == j) ids || b) (or-none (h.id == id)))
      ∙ none-or (list_any (λ j. h.id == j) ids) (h.id == id)
      ∙ turned (not (list_any (λ j. h.id == j) ids)) (not (h.id == id))) xs)
    where
      turned : (a b : Bool) → (a && b) ≡ (b && a)
      turned true true = refl
      turned true false = refl
      turned false true = refl
      turned false false = refl

  pub held-last : (ids : List ℕ) (items : List R) (id : ℕ) (item : R) → length ids ≡ length items
      → held_as (ids ++ id ∷ []) (items ++ item ∷ []) ≡ held_as ids items ++ record { id = id; item = item } ∷ []
  held-last [] [] id item e = refl
  held-last [] (x ∷ items) id item e = absurd (let z : 0 ≡ length (x ∷ items) = e in grind (arith, common_steps))
  held-last (i ∷ ids) [] id item e = absurd (let z : length (i ∷ ids) ≡ 0 = e in grind (arith, common_steps))
  held-last (i ∷ ids) (x ∷ items) id item e =
      ap (λ z. record { id = i; item = x } ∷ z)
      (held-last ids items id item (let z : length (i ∷ ids) ≡ length (x ∷ items) = e in grind (arith, common_steps)))

  pub adds-held : (first old new : List (Held R)) (ids ids' : List ℕ) (items : List R) (item : R)
      → length ids ≡ length items → IsPermutation (held_as ids items ++ first) old → AddsOne old new ids ids' item
      → IsPermutation (held_as ids' (items ++ item ∷ []) ++ first) new
  adds-held first old new ids ids' items item e h a =
      let one : Held R = record { id = a.id; item = item } in
      subst (λ z. IsPermutation (held_as z (items ++ item ∷ []) ++ first) new) (sym a.noted)
      (subst (λ z. IsPermutation (z ++ first) new) (sym (held-last ids items a.id item e))
      (IsPermutation-trans _ (held_as ids items ++ one ∷ first) _
      (by-equation _ _ (append_assoc (held_as ids items) (one ∷ []) first))
      (IsPermutation-trans _ (one ∷ (held_as ids items ++ first)) _ (IsPermutation-middle (held_as ids items) one first)
      (IsPermutation-trans _ (one ∷ old) _ (IsPermutation-cons one _ _ h) a.added))))

  pub adds-others : (first old new : List (Held R)) (ids ids' : List ℕ) (item : R) → filter (is_outside ids) old ≡ first
      → AddsOne old new ids ids' item → filter (is_outside ids') new ≡ first
  adds-others first old new ids ids' item h a = ap (λ z. filter (is_outside z) new) a.noted ∙ outside-last ids a.id new
      ∙ ap (filter (is_outside ids)) a.others ∙ h

-- ---- what was moved out
module _ {X : Type 0} where
  pub moved-some : (gone gone' old new : List X) (item : X) → IsPermutation old (item ∷ new) → gone' ≡ gone ++ item ∷ []
      → IsPermutation (gone ++ old) (gone' ++ new)
  moved-some gone gone' old new item h e =
      subst (λ z. IsPermutation (gone ++ old) (z ++ new)) (sym e)
      (IsPermutation-trans _ (gone ++ item ∷ new) _ (IsPermutation-append_right gone old (item ∷ new) h)
      (by-equation _ _ (sym (append_assoc gone (item ∷ []) new))))

-- ---- what bears a name left out
less-differs : (i j : ℕ) → nat_cmp i j ≡ Less → (i == j) ≡ false
less-differs i j e = elim (cases_eq j i) [
  | inl s ↦ absurd (let z : Equal ≡ Less = nat_cmp_is i j Equal (sym s) ∙ e in cc)
  | inr n ↦ eq-other i j n
]

more-differs : (i j : ℕ) → nat_cmp i j ≡ Less → (j == i) ≡ false
more-differs i j e = elim (cases_eq j i) [
  | inl s ↦ absurd (let z : Equal ≡ Less = nat_cmp_is i j Equal (sym s) ∙ e in cc)
  | inr n ↦ eq-other j i (λ s. n (sym s))
]

itself : (i : ℕ) → (i == i) ≡ true
itself i = eq-same i i refl

module _ {R : Type 0} (p : Held R → Bool) where
  differ-at : (x h : Held R) (hs : List (Held R)) (t : Bool) → p h ≡ t → (x.id == h.id) ≡ false
      → list_any (λ id. x.id == id) (map id_of (filter p hs)) ≡ false
      → list_any (λ id. x.id == id) (map id_of (filter p (h ∷ hs))) ≡ false
  differ-at x h hs true e n f = rw (e, n) f
  differ-at x h hs false e n f = rw e f

  differ : (x : Held R) (hs : List (Held R)) → AllByRecursion (λ j. nat_cmp x.id j ≡ Less) (map id_of hs)
      → list_any (λ id. x.id == id) (map id_of (filter p hs)) ≡ false
  differ x [] a = refl
  differ x (h ∷ hs) a = differ-at x h hs (p h) refl (less-differs x.id h.id a.0) (differ x hs a.1)

  same-filter : (f g : Held R → Bool) (hs : List (Held R)) → AllByRecursion (λ h. f h ≡ g h) hs
      → filter f hs ≡ filter g hs
  same-filter f g [] a = refl
  same-filter f g (h ∷ hs) a = ap (λ t. cond t (h ∷ filter f hs) (filter f hs)) a.0
      ∙ ap (λ z. cond (g h) (h ∷ z) z) (same-filter f g hs a.1)

  later-same : (x : Held R) (ids : List ℕ) (hs : List (Held R))
      → AllByRecursion (λ j. nat_cmp x.id j ≡ Less) (map id_of hs)
      → AllByRecursion (λ h. is_outside (x.id ∷ ids) h ≡ is_outside ids h) hs
  later-same x ids [] a = tt
  later-same x ids (h ∷ hs) a = (rw (more-differs x.id h.id a.0) refl, later-same x ids hs a.1)

  named-at : (x : Held R) (hs : List (Held R)) (t : Bool) → p x ≡ t
      → AllByRecursion (λ j. nat_cmp x.id j ≡ Less) (map id_of hs)
      → filter (is_outside (map id_of (filter p hs))) hs ≡ filter (λ h. not (p h)) hs →
      filter (is_outside (map id_of (filter p (x ∷ hs)))) (x ∷ hs) ≡ filter (λ h. not (p h)) (x ∷ hs)
  named-at x hs true e a f =
      let ids = map id_of (filter p hs) in
      let rest = filter (is_outside (x.id ∷ ids)) hs in
      ap (λ t. filter (is_outside (map id_of (cond t (x ∷ filter p hs) (filter p hs)))) (x ∷ hs)) e
      ∙ ap (λ b. cond (not (b || list_any (λ id. x.id == id) ids)) (x ∷ rest) rest) (itself x.id)
      ∙ same-filter (is_outside (x.id ∷ ids)) (is_outside ids) hs (later-same x ids hs a)
      ∙ f
      ∙ sym (ap (λ t. cond (not t) (x ∷ filter (λ h. not (p h)) hs) (filter (λ h. not (p h)) hs)) e)
  named-at x hs false e a f =
      ap (λ t. filter (is_outside (map id_of (cond t (x ∷ filter p hs) (filter p hs)))) (x ∷ hs)) e
      ∙ ap (λ t. cond (not t) (x ∷ filter (is_outside (map id_of (filter p hs))) hs)
      (filter (is_outside (map id_of (filter p hs))) hs)) (differ x hs a)
      ∙ ap (λ z. x ∷ z) f
      ∙ sym (ap (λ t. cond (not t) (x ∷ filter (λ h. not (p h)) hs) (filter (λ h. not (p h)) hs)) e)

  -- the ids of what passes a test, left out, leave what doesn't
  pub outside-named : (hs : List (Held R)) → IsStrictlySortedBy nat_cmp (map id_of hs)
      → filter (is_outside (map id_of (filter p hs))) hs ≡ filter (λ h. not (p h)) hs
  unfolding IsStrictlySortedBy
  outside-named [] s = refl
  outside-named (x ∷ hs) s = named-at x hs (p x) refl s.0 (outside-named hs s.1)

pub count-last : {X Y : Type 0} (ids ids' : List X) (items : List Y) (id : X) (item : Y) → ids' ≡ ids ++ id ∷ []
    → length ids ≡ length items → length ids' ≡ length (items ++ item ∷ [])
count-last ids ids' items id item e n = ap length e ∙ length-append ids (id ∷ []) ∙ ap (λ k. k + 1) n
    ∙ sym (length-append items (item ∷ []))

-- ---- a set that is copied, a link at a time
turned : (o p : Ordering) → is_eq (ordering_then (ordering_reverse o) (ordering_reverse p)) ≡ is_eq (ordering_then o p)
turned Less p = refl
turned Greater p = refl
turned Equal Less = refl
turned Equal Equal = refl
turned Equal Greater = refl

one-of : (t old rest : Bool) → (cond t true old || rest) ≡ (old || (t || rest))
one-of true true rest = refl
one-of true false rest = refl
one-of false old rest = refl

module _ {N : Type 0} (cmp : N → N → Ordering) (total : IsTotalOrder cmp) where
  either-way : (a b : Link N) → is_eq (by_link cmp a b) ≡ is_eq (by_link cmp b a)
  either-way a b =
      ap (λ o. is_eq (ordering_then o (nat_cmp a.id b.id))) (total.antisymm a.name b.name)
      ∙ ap (λ o. is_eq (ordering_then (ordering_reverse (cmp b.name a.name)) o)) (nat_cmp_total.antisymm a.id b.id)
      ∙ turned (cmp b.name a.name) (nat_cmp b.id a.id)

  pub copied-more : (q key : Link N) (all rest initial : List (Link N)) (old new : Bool)
      → (old || list_any (is_at (by_link cmp q)) all) ≡ list_any (is_at (by_link cmp q)) initial → all ≡ key ∷ rest
      → new ≡ cond (is_eq (by_link cmp key q)) true old →
      (new || list_any (is_at (by_link cmp q)) rest) ≡ list_any (is_at (by_link cmp q)) initial
  copied-more q key all rest initial old new h e n =
      ap (λ b. b || list_any (is_at (by_link cmp q)) rest) (n ∙ ap (λ t. cond t true old) (either-way key q))
      ∙ one-of (is_eq (by_link cmp q key)) old (list_any (is_at (by_link cmp q)) rest)
      ∙ ap (λ z. old || list_any (is_at (by_link cmp q)) z) (sym e) ∙ h

pub all-copied : {A : Type 0} (p : A → Bool) (left initial : List A) (now : Bool)
    → (now || list_any p left) ≡ list_any p initial → left ≡ [] → now ≡ list_any p initial
all-copied p left initial now h e = sym (or-none now) ∙ ap (λ z. now || list_any p z) (sym e) ∙ h

-- ---- each is found under its id
module _ {R : Type 0} where
  later-found : (x : Held R) (all hs : List (Held R)) → AllByRecursion (λ j. nat_cmp x.id j ≡ Less) (map id_of hs)
      → AllByRecursion (λ (h : Held R). item_at all h.id ≡ Some h.item) hs
      → AllByRecursion (λ (h : Held R). item_at (x ∷ all) h.id ≡ Some h.item) hs
  later-found x all [] a f = tt
  later-found x all (h ∷ hs) a f = (rw (less-differs x.id h.id a.0) f.0, later-found x all hs a.1 f.1)

  pub found-all : (hs : List (Held R)) → IsStrictlySortedBy nat_cmp (map id_of hs)
      → AllByRecursion (λ (h : Held R). item_at hs h.id ≡ Some h.item) hs
  unfolding IsStrictlySortedBy
  found-all [] s = tt
  found-all (h ∷ hs) s = (rw (itself h.id) refl, later-found h hs hs s.0 (found-all hs s.1))
