-- The links of one name stand together, by rising id.
use Rattle.std.proofs.Common.{subst, ◌≡◌, inl, inr, ℕ, ◌<◌, ◌≤◌, ◌^◌, arith, cond, length, nat_lt, ltb-true, ltb-false}
use Rattle.std.proofs.Common.{Bool, true, false, not, ◌&&◌, ◌||◌, List, [], ◌∷◌, Option, None, refl, sym, ap, ◌∙◌, ◌⊎◌}
use Rattle.std.specs.List.{list_any}
use Rattle.std.specs.Prelude.{map, filter, nat_eq}
use Rattle.std.specs.BTreeMap.Range.{range_contains}
use Rattle.std.specs.declared.ops.Bound.TheVariants.{Included}
use Rattle.std.specs.Ordering.{nat_cmp, ordering_then, is_eq, is_le, is_lt}
use Rattle.std.specs.declared.cmp.Ordering.{Ordering}
use Rattle.std.specs.declared.cmp.Ordering.TheVariants.{Less, Equal, Greater}
use Rattle.std.specs.Cmp.{nat_cmp_is, IsTotalOrder}
use Rattle.std.specs.BTreeSet.{BTreeSet, IsOrdered}
use Rattle.std.proofs.lemmas.Bool.{cases_eq}
use Rattle.std.proofs.lemmas.List.{get_or_past}
use Rattle.std.specs.List.{AllByRecursion}
use Rattle.std.specs.List.Sorted.{IsStrictlySortedBy}
use Rattle.std.proofs.lemmas.List.Kept.{IsStrictlySortedBy-filter}
use Rattle.rule_ancestry.specs.InsideSlots.{at}
use Rattle.rule_ancestry.specs.declared.links.Link.{Link}
use Rattle.rule_ancestry.specs.InsideLinks.{by_link, AreLinks}
use Rattle.rule_ancestry.specs.Names.{names_at}
use Rattle.rule_ancestry.proofs.StoreLemmas.{equal-ids, unequal-ids, eq-same, eq-other, and-none}

low-le : (a i : ℕ) → a ≤ i → is_le (nat_cmp a i) ≡ true
low-le a i p = elim (cases_eq a i) [
  | inl e ↦ ap is_le (sym (nat_cmp_is a i Equal e))
  | inr n ↦ ap is_le (sym (nat_cmp_is a i Less (omega arith)))
]

high-lt : (a i : ℕ) → i ≤ a → is_lt (nat_cmp a i) ≡ false
high-lt a i p = elim (cases_eq a i) [
  | inl e ↦ ap is_lt (sym (nat_cmp_is a i Equal e))
  | inr n ↦ ap is_lt (sym (nat_cmp_is a i Greater (omega arith)))
]

all-true : (a b c d : Bool) → a ≡ true → b ≡ false → c ≡ true → d ≡ true → ((a && not b) && c) ≡ d
all-true a b c d p q r s = rw (p, q, r, s) refl

none-true : (a b c d : Bool) → c ≡ false → d ≡ false → ((a && not b) && c) ≡ d
none-true a b c d r s = rw (r, s) (and-none (a && not b))

ids-within : (low high i j : ℕ) → low ≤ i → i ≤ high
    → ((is_le (nat_cmp low j) && not (is_lt (nat_cmp high j))) && nat_eq i j) ≡ is_eq (nat_cmp i j)
ids-within low high i j p q = elim (cases_eq j i) [
  | inl e ↦ all-true _ _ _ _ (low-le low j (omega arith)) (high-lt high j (omega arith)) (eq-same i j e)
      (ap is_eq (equal-ids i j e))
  | inr n ↦ none-true _ _ _ _ (eq-other i j n) (unequal-ids i j n)
]

-- the link of a name to an id, where the id is within bounds
within : (o : Ordering) (low high i j : ℕ) → low ≤ i → i ≤ high
    → ((is_le (ordering_then o (nat_cmp low j)) && not (is_lt (ordering_then o (nat_cmp high j)))) && nat_eq i j)
    ≡ is_eq (ordering_then o (nat_cmp i j))
within Less low high i j p q = refl
within Greater low high i j p q = refl
within Equal low high i j p q = ids-within low high i j p q

module _ {A : Type 0} (p : A → Bool) (f : A → ℕ) (i : ℕ) where
  any-step : (t : Bool) (x : A) (rest : List A) (b : Bool) → list_any (nat_eq i) (map f rest) ≡ b
      → list_any (nat_eq i) (map f (cond t (x ∷ rest) rest)) ≡ ((t && nat_eq i (f x)) || b)
  any-step true x rest b e = ap (λ c. nat_eq i (f x) || c) e
  any-step false x rest b e = e

  any-kept : (xs : List A) → list_any (nat_eq i) (map f (filter p xs)) ≡ list_any (λ x. p x && nat_eq i (f x)) xs
  any-kept [] = refl
  any-kept (x ∷ xs) = any-step (p x) x (filter p xs) _ (any-kept xs)

pub any-same : {A : Type 0} (p q : A → Bool) → ((x : A) → p x ≡ q x) → (xs : List A) → list_any p xs ≡ list_any q xs
any-same p q h [] = refl
any-same p q h (x ∷ xs) = ap (λ b. b || list_any p xs) (h x) ∙ ap (λ b. q x || b) (any-same p q h xs)

lt-high : (a j : ℕ) → a < j → is_lt (nat_cmp a j) ≡ true
lt-high a j p = ap is_lt (sym (nat_cmp_is a j Less p))

first-false : (a b c : Bool) → b ≡ true → ((a && not b) && c) ≡ false
first-false true b c p = rw p refl
first-false false b c p = refl

last-false : (a c : Bool) → c ≡ false → (a && c) ≡ false
last-false a c p = rw p (and-none a)

-- no link to an id beyond bounds is in the range
beyond : (o : Ordering) (low high i j : ℕ) → high < i
    → ((is_le (ordering_then o (nat_cmp low j)) && not (is_lt (ordering_then o (nat_cmp high j)))) && nat_eq i j)
    ≡ false
beyond Less low high i j p = refl
beyond Greater low high i j p = refl
beyond Equal low high i j p = elim (cases_eq j i) [
  | inl e ↦ first-false _ _ _ (lt-high high j (omega arith))
  | inr n ↦ last-false _ _ (eq-other i j n)
]

none-any : {A : Type 0} (p : A → Bool) → ((x : A) → p x ≡ false) → (xs : List A) → list_any p xs ≡ false
none-any p h [] = refl
none-any p h (x ∷ xs) = ap (λ b. b || list_any p xs) (h x) ∙ none-any p h xs

split-by : (i n : ℕ) (b : Bool) → nat_lt i n ≡ b → (i < n) ⊎ (n ≤ i)
split-by i n true e = inl (ltb-true i n e)
split-by i n false e = inr (ltb-false i n e)

-- ---- rising

then-less : (o p : Ordering) → o ≡ Equal → ordering_then o p ≡ Less → p ≡ Less
then-less Less p n e = absurd (cc)
then-less Equal p n e = e
then-less Greater p n e = absurd (cc)

in-range : (o x y : Ordering) → (is_le (ordering_then o x) && not (is_lt (ordering_then o y))) ≡ true → o ≡ Equal
in-range Less x y e = absurd (cc)
in-range Equal x y e = refl
in-range Greater x y e = absurd (cc)

all-step : {A : Type 0} (p : A → Bool) (x : A) (xs : List A) (b : Bool) → p x ≡ b → AllByRecursion (λ y. p y ≡ true) xs
    → AllByRecursion (λ y. p y ≡ true) (cond b (x ∷ xs) xs)
all-step p x xs true e a = (e, a)
all-step p x xs false e a = a

all-filtered : {A : Type 0} (p : A → Bool) (xs : List A) → AllByRecursion (λ x. p x ≡ true) (filter p xs)
all-filtered p [] = tt
all-filtered p (x ∷ xs) = all-step p x (filter p xs) (p x) refl (all-filtered p xs)

module _ {N : Type 0} (cmp : N → N → Ordering) (name : N) where
  -- the links of the name
  abbrev of_name : Link N → Bool
  of_name = range_contains (by_link cmp) (Included (record { name = name; id = 0 }))
      (Included (record { name = name; id = 18446744073709551615 }))

  pub descending : {R : Type 0} (borne : R → List N) (slots : List (Option R)) (links : BTreeSet (Link N))
      (ids : List ℕ) → AreLinks cmp borne slots links → length slots < 2 ^ 64 →
      ids ≡ map (λ (q : Link N). q.id)
      (filter (range_contains (by_link cmp) (Included (record { name = name; id = 0 }))
      (Included (record { name = name; id = 18446744073709551615 }))) links.keys) →
      (id : ℕ) → list_any (nat_eq id) ids ≡ names_at cmp borne (at slots id) name
  descending borne slots links ids are short is id = elim (split-by id (2 ^ 64) (nat_lt id (2 ^ 64)) refl) [
    | inl lt ↦
        ap (list_any (nat_eq id)) is
        ∙ any-kept of_name (λ (q : Link N). q.id) id links.keys
        ∙ any-same _ _ (λ q. within (cmp name q.name) 0 18446744073709551615 id q.id (omega arith) (omega arith))
        links.keys
        ∙ are (record { name = name; id = id })
    | inr le ↦
        ap (list_any (nat_eq id)) is
        ∙ any-kept of_name (λ (q : Link N). q.id) id links.keys
        ∙ none-any _ (λ q. beyond (cmp name q.name) 0 18446744073709551615 id q.id (omega arith)) links.keys
        ∙ sym (ap (λ o. names_at cmp borne o name) (get_or_past slots id None (omega arith)))
  ]

  module _ (total : IsTotalOrder cmp) where
    below-ids : (q : Link N) → cmp name q.name ≡ Equal → (rs : List (Link N))
        → AllByRecursion (λ r. by_link cmp q r ≡ Less) rs → AllByRecursion (λ (r : Link N). cmp name r.name ≡ Equal) rs
        → AllByRecursion (λ j. nat_cmp q.id j ≡ Less) (map (λ (r : Link N). r.id) rs)
    below-ids q e [] l a = tt
    below-ids q e (r ∷ rs) l a = (
      then-less (cmp q.name r.name) (nat_cmp q.id r.id) (sym (total.congr name q.name r.name e) ∙ a.0) l.0,
      below-ids q e rs l.1 a.1,
    )

    ids-rise : (qs : List (Link N)) → IsStrictlySortedBy (by_link cmp) qs
        → AllByRecursion (λ (q : Link N). cmp name q.name ≡ Equal) qs
        → IsStrictlySortedBy nat_cmp (map (λ (q : Link N). q.id) qs)
    unfolding IsStrictlySortedBy
    ids-rise [] s a = tt
    ids-rise (q ∷ qs) s a = (below-ids q a.0 qs s.0 a.1, ids-rise qs s.1 a.1)

    names-same : (qs : List (Link N)) → AllByRecursion (λ q. of_name q ≡ true) qs
        → AllByRecursion (λ (q : Link N). cmp name q.name ≡ Equal) qs
    names-same [] a = tt
    names-same (q ∷ qs) a = (in-range (cmp name q.name) _ _ a.0, names-same qs a.1)

    pub descending-rise : (links : BTreeSet (Link N)) (ids : List ℕ) → IsOrdered (by_link cmp) links →
        ids ≡ map (λ (q : Link N). q.id)
        (filter (range_contains (by_link cmp) (Included (record { name = name; id = 0 }))
        (Included (record { name = name; id = 18446744073709551615 }))) links.keys) →
        IsStrictlySortedBy nat_cmp ids
    descending-rise links ids o e =
        subst (IsStrictlySortedBy nat_cmp) (sym e)
        (ids-rise (filter of_name links.keys) (IsStrictlySortedBy-filter (by_link cmp) of_name links.keys o)
        (names-same (filter of_name links.keys) (all-filtered of_name links.keys)))
