-- What is held, where one or several ids are told apart from the rest.
use Rattle.std.proofs.Common.{◌≡◌, ◌==◌, Bool, true, false, not, cond, inl, inr, ◌||◌, ℕ, List, [], ◌∷◌, ◌++◌, Option}
use Rattle.std.proofs.Common.{Some, refl, sym, ap, subst, ◌∙◌}
use Rattle.std.specs.Prelude.{IsPermutation, filter, map}
use Rattle.std.specs.List.{AllByRecursion, IsDistinct, list_any}
use Rattle.std.specs.List.Sorted.{IsStrictlySortedBy}
use Rattle.std.specs.Ordering.{nat_cmp}
use Rattle.std.specs.declared.cmp.Ordering.TheVariants.{Less, Equal}
use Rattle.std.specs.Cmp.{IsTotalOrder, nat_cmp_is}
use Rattle.std.proofs.lemmas.Bool.{cases_eq}
use Rattle.std.proofs.lemmas.Cmp.{nat_cmp_total, on_total}
use Rattle.std.proofs.lemmas.List.{map-append}
use Rattle.std.proofs.lemmas.List.Elements.{filter-append}
use Rattle.std.proofs.lemmas.List.Sorted.{IsPermutation-map, IsPermutation-sym, IsPermutation-trans}
use Rattle.std.proofs.lemmas.Map.Keys.{IsDistinct-IsPermutation, IsDistinct-head, IsDistinct-tail}
use Rattle.list_change.proofs.Permute.{by-equation}
use Rattle.list_change.proofs.Kept.{permuted-filter}
use Rattle.policy_meaning.specs.LeafFact.{EachPair}
use Rattle.policy_meaning.proofs.Rising.{all-permuted, unique}
use Rattle.rule_ancestry.specs.Holding.{Held, id_of, is_other, is_outside, item_at, with_item}
use Rattle.rule_ancestry.proofs.Lists.{found-all}
use Rattle.rule_ancestry.proofs.StoreLemmas.{eq-same, eq-other}

itself : (i : ℕ) → (i == i) ≡ true
itself i = eq-same i i refl

flips : (i j : ℕ) → (i == j) ≡ (j == i)
flips i j = elim (cases_eq j i) [
  | inl e ↦ eq-same i j e ∙ sym (eq-same j i (sym e))
  | inr n ↦ eq-other i j n ∙ sym (eq-other j i (λ e. n (sym e)))
]

less-differs : (i j : ℕ) → nat_cmp i j ≡ Less → (i == j) ≡ false
less-differs i j e = elim (cases_eq j i) [
  | inl s ↦ absurd (let z : Equal ≡ Less = nat_cmp_is i j Equal (sym s) ∙ e in cc)
  | inr n ↦ eq-other i j n
]

all-less : (i : ℕ) (ids : List ℕ) → AllByRecursion (λ j. nat_cmp i j ≡ Less) ids
    → AllByRecursion (λ j. (i == j) ≡ false) ids
all-less i [] a = tt
all-less i (j ∷ ids) a = (less-differs i j a.0, all-less i ids a.1)

rising-distinct : (ids : List ℕ) → IsStrictlySortedBy nat_cmp ids → IsDistinct ◌==◌ ids
unfolding IsStrictlySortedBy IsDistinct
rising-distinct [] s = tt
rising-distinct (i ∷ ids) s = (all-less i ids s.0, rising-distinct ids s.1)

both-false : (a b : Bool) → a ≡ false → b ≡ false → (a || b) ≡ false
both-false true b e f = e
both-false false b e f = f

either : (a b : Bool) → b ≡ true → (a || b) ≡ true
either true b e = refl
either false b e = e

module _ {R : Type 0} where
  abbrev pub Rising : List (Held R) → Type 0
  Rising s = IsStrictlySortedBy nat_cmp (map id_of s)

  abbrev pub OneEach : List (Held R) → Type 0
  OneEach s = IsDistinct ◌==◌ (map id_of s)

  pub one-each : (s t : List (Held R)) → Rising s → IsPermutation s t → OneEach t
  one-each s t up p = IsDistinct-IsPermutation ◌==◌ flips (map id_of s) (map id_of t) (IsPermutation-map id_of s t p)
      (rising-distinct (map id_of s) up)

  unmapped : (i : ℕ) (hs : List (Held R)) → AllByRecursion (λ j. (i == j) ≡ false) (map id_of hs)
      → AllByRecursion (λ (h : Held R). (h.id == i) ≡ false) hs
  unmapped i [] a = tt
  unmapped i (h ∷ hs) a = (flips h.id i ∙ a.0, unmapped i hs a.1)

  others : (h : Held R) (rest : List (Held R)) → OneEach (h ∷ rest)
      → AllByRecursion (λ (x : Held R). (x.id == h.id) ≡ false) rest
  others h rest d = unmapped h.id rest (IsDistinct-head ◌==◌ h.id (map id_of rest) d)

  pub item-there : (s rest : List (Held R)) (h : Held R) → Rising s → IsPermutation s (h ∷ rest)
      → item_at s h.id ≡ Some h.item
  item-there s rest h up p =
      (all-permuted s (h ∷ rest) p (λ (x : Held R). item_at s x.id ≡ Some x.item) (found-all s up)).0

  filter-others : (id : ℕ) (rest : List (Held R)) → AllByRecursion (λ (x : Held R). (x.id == id) ≡ false) rest
      → filter (is_other id) rest ≡ rest
  filter-others id [] a = refl
  filter-others id (x ∷ rest) a = ap (λ b. cond (not b) (x ∷ filter (is_other id) rest) (filter (is_other id) rest)) a.0
      ∙ ap (λ z. x ∷ z) (filter-others id rest a.1)

  pub without-one : (s rest : List (Held R)) (h : Held R) → Rising s → IsPermutation s (h ∷ rest)
      → IsPermutation (filter (is_other h.id) s) rest
  without-one s rest h up p =
      IsPermutation-trans _ _ _ (permuted-filter (is_other h.id) s (h ∷ rest) p)
      (by-equation _ _ (ap (λ b. cond (not b) (h ∷ filter (is_other h.id) rest) (filter (is_other h.id) rest))
      (itself h.id)
      ∙ filter-others h.id rest (others h rest (one-each s (h ∷ rest) up p))))

  with-others : (id : ℕ) (item : R) (rest : List (Held R)) → AllByRecursion (λ (x : Held R). (x.id == id) ≡ false) rest
      → with_item id item rest ≡ rest
  with-others id item [] a = refl
  with-others id item (x ∷ rest) a =
      ap (λ b. cond b (record { id = id; item = item }) x ∷ with_item id item rest) a.0
      ∙ ap (λ z. x ∷ z) (with-others id item rest a.1)

  pub in-place : (s rest : List (Held R)) (h : Held R) (item : R) → Rising s → IsPermutation s (h ∷ rest)
      → IsPermutation (with_item h.id item s) (record { id = h.id; item = item } ∷ rest)
  in-place s rest h item up p =
      IsPermutation-trans _ (with_item h.id item (h ∷ rest)) _
      (IsPermutation-map (λ (x : Held R). cond (x.id == h.id) (record { id = h.id; item = item }) x) s (h ∷ rest) p)
      (by-equation _ _ (ap (λ b. cond b (record { id = h.id; item = item }) h ∷ with_item h.id item rest) (itself h.id)
      ∙ ap (λ z. record { id = h.id; item = item } ∷ z)
      (with-others h.id item rest (others h rest (one-each s (h ∷ rest) up p)))))

  -- ---- several ids
  one-each-rest : (gone rest : List (Held R)) (h : Held R) → OneEach (h ∷ (gone ++ rest)) → OneEach (gone ++ rest)
  one-each-rest gone rest h d = IsDistinct-tail ◌==◌ h.id (map id_of (gone ++ rest)) d

  later : (P : Held R → Type 0) (gone rest : List (Held R)) → AllByRecursion P (gone ++ rest) → AllByRecursion P rest
  later P [] rest a = a
  later P (h ∷ gone) rest a = later P gone rest a.1

  all-both : (id : ℕ) (ids : List ℕ) (hs : List (Held R)) → AllByRecursion (λ (x : Held R). (x.id == id) ≡ false) hs
      → AllByRecursion (λ (x : Held R). list_any (λ j. x.id == j) ids ≡ false) hs →
      AllByRecursion (λ (x : Held R). list_any (λ j. x.id == j) (id ∷ ids) ≡ false) hs
  all-both id ids [] a b = tt
  all-both id ids (x ∷ hs) a b =
      (both-false (x.id == id) (list_any (λ j. x.id == j) ids) a.0 b.0, all-both id ids hs a.1 b.1)

  none-of : (hs : List (Held R)) → AllByRecursion (λ (x : Held R). list_any (λ j. x.id == j) [] ≡ false) hs
  none-of [] = tt
  none-of (x ∷ hs) = (refl, none-of hs)

  outside-of : (gone rest : List (Held R)) → OneEach (gone ++ rest)
      → AllByRecursion (λ (x : Held R). list_any (λ j. x.id == j) (map id_of gone) ≡ false) rest
  outside-of [] rest d = none-of rest
  outside-of (h ∷ gone) rest d =
      all-both h.id (map id_of gone) rest
      (later (λ (x : Held R). (x.id == h.id) ≡ false) gone rest (others h (gone ++ rest) d))
      (outside-of gone rest (one-each-rest gone rest h d))

  filter-outside : (ids : List ℕ) (rest : List (Held R))
      → AllByRecursion (λ (x : Held R). list_any (λ j. x.id == j) ids ≡ false) rest
      → filter (is_outside ids) rest ≡ rest
  filter-outside ids [] a = refl
  filter-outside ids (x ∷ rest) a =
      ap (λ b. cond (not b) (x ∷ filter (is_outside ids) rest) (filter (is_outside ids) rest)) a.0
      ∙ ap (λ z. x ∷ z) (filter-outside ids rest a.1)

  all-inside : (first : List ℕ) (gone : List (Held R))
      → AllByRecursion (λ (x : Held R). list_any (λ j. x.id == j) (first) ≡ true) gone
      → filter (is_outside first) gone ≡ []
  all-inside first [] a = refl
  all-inside first (x ∷ gone) a =
      ap (λ b. cond (not b) (x ∷ filter (is_outside first) gone) (filter (is_outside first) gone)) a.0
      ∙ all-inside first gone a.1

  more-inside : (id : ℕ) (ids : List ℕ) (hs : List (Held R))
      → AllByRecursion (λ (x : Held R). list_any (λ j. x.id == j) ids ≡ true) hs
      → AllByRecursion (λ (x : Held R). list_any (λ j. x.id == j) (id ∷ ids) ≡ true) hs
  more-inside id ids [] a = tt
  more-inside id ids (x ∷ hs) a = (either (x.id == id) (list_any (λ j. x.id == j) ids) a.0, more-inside id ids hs a.1)

  inside-of : (gone : List (Held R))
      → AllByRecursion (λ (x : Held R). list_any (λ j. x.id == j) (map id_of gone) ≡ true) gone
  inside-of [] = tt
  inside-of (h ∷ gone) = (
    ap (λ b. b || list_any (λ j. h.id == j) (map id_of gone)) (itself h.id),
    more-inside h.id (map id_of gone) gone (inside-of gone),
  )

  pub without-all : (s gone rest : List (Held R)) → Rising s → IsPermutation s (gone ++ rest)
      → IsPermutation (filter (is_outside (map id_of gone)) s) rest
  without-all s gone rest up p =
      let ids = map id_of gone in
      IsPermutation-trans _ _ _ (permuted-filter (is_outside ids) s (gone ++ rest) p)
      (by-equation _ _ (filter-append (is_outside ids) gone rest
      ∙ ap (λ z. z ++ filter (is_outside ids) rest) (all-inside ids gone (inside-of gone))
      ∙ filter-outside ids rest (outside-of gone rest (one-each s (gone ++ rest) up p))))

  -- ---- one list of what is held
  by_id_total : IsTotalOrder (λ (x y : Held R). nat_cmp x.id y.id)
  by_id_total = on_total (λ (h : Held R). h.id) nat_cmp_total

  each-less : (h : Held R) (hs : List (Held R)) → AllByRecursion (λ j. nat_cmp h.id j ≡ Less) (map id_of hs)
      → AllByRecursion (λ (x : Held R). nat_cmp h.id x.id ≡ Less) hs
  each-less h [] a = tt
  each-less h (x ∷ hs) a = (a.0, each-less h hs a.1)

  each-pair : (s : List (Held R)) → Rising s → EachPair (λ (x y : Held R). nat_cmp x.id y.id ≡ Less) s
  unfolding IsStrictlySortedBy
  each-pair [] up = tt
  each-pair (h ∷ s) up = (each-less h s up.0, each-pair s up.1)

  -- two that are in any order of each other, each with its ids rising, are one
  pub same-held : (s t : List (Held R)) → Rising s → Rising t → IsPermutation s t → s ≡ t
  same-held s t up rise p =
      unique (λ (x y : Held R). nat_cmp x.id y.id) by_id_total s t (each-pair s up) (each-pair t rise)
      (λ P a. all-permuted s t p P a) (λ P a. all-permuted t s (IsPermutation-sym s t p) P a)
