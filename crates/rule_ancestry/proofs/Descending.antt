-- The ids of what bears a name, as the links tell them.
use Rattle.std.proofs.Common.{◌≡◌, ◌<◌, ◌+◌, ◌^◌, ◌||◌, arith, cond, length, nat_eq, ℕ, zero, suc, Bool, true, false}
use Rattle.std.proofs.Common.{List, [], ◌∷◌, Option, Some, None, refl, sym, ap, ◌∙◌, inl, inr}
use Rattle.std.specs.List.{AllByRecursion, list_any}
use Rattle.std.specs.Prelude.{map, filter}
use Rattle.std.specs.BTreeMap.{is_at}
use Rattle.std.specs.BTreeMap.Range.{range_contains}
use Rattle.std.specs.BTreeSet.{BTreeSet, IsOrdered}
use Rattle.std.specs.Cmp.{IsTotalOrder, nat_cmp_is}
use Rattle.std.specs.List.Sorted.{IsStrictlySortedBy}
use Rattle.std.specs.Ordering.{nat_cmp, is_eq}
use Rattle.std.specs.declared.cmp.Ordering.{Ordering}
use Rattle.std.specs.declared.cmp.Ordering.TheVariants.{Less, Equal}
use Rattle.std.specs.declared.ops.Bound.TheVariants.{Included}
use Rattle.std.proofs.lemmas.Bool.{cases_eq}
use Rattle.std.proofs.lemmas.Cmp.{nat_cmp_total}
use Rattle.std.proofs.lemmas.List.Kept.{IsStrictlySortedBy-filter}
use Rattle.std.proofs.lemmas.Map.Lookups.{btree_set_from_contains, exact_unsigned}
use Rattle.rule_ancestry.specs.Holding.{Held, id_of}
use Rattle.rule_ancestry.specs.InsideLinks.{by_link, AreLinks}
use Rattle.rule_ancestry.specs.InsideSlots.{at, held_from}
use Rattle.rule_ancestry.specs.Names.{bears, names, names_at}
use Rattle.rule_ancestry.specs.declared.links.Link.{Link}
use Rattle.rule_ancestry.proofs.OrderedLinks.{any-same, descending, descending-rise}
use Rattle.rule_ancestry.proofs.Slots.{ids-rise, next}
use Rattle.rule_ancestry.proofs.StoreLemmas.{eq-same, eq-other, unequal-ids}

same-test : (i j : ℕ) → is_at (nat_cmp i) j ≡ nat_eq i j
same-test i j = elim (cases_eq j i) [
  | inl e ↦ ap is_eq (sym (nat_cmp_is i j Equal (sym e))) ∙ sym (eq-same i j e)
  | inr n ↦ unequal-ids i j n ∙ sym (eq-other i j n)
]

-- two rising lists that have the same numbers are one
same-numbers : (xs ys : List ℕ) → IsStrictlySortedBy nat_cmp xs → IsStrictlySortedBy nat_cmp ys
    → ((i : ℕ) → list_any (nat_eq i) xs ≡ list_any (nat_eq i) ys) → xs ≡ ys
same-numbers xs ys s t h = btree_set_from_contains nat_cmp_total (record { keys = xs }) (record { keys = ys }) s t
    (λ i. any-same _ _ (same-test i) xs ∙ h i ∙ sym (any-same _ _ (same-test i) ys)) exact_unsigned

module _ {R : Type 0} where
  abbrev by_id : Held R → Held R → Ordering
  by_id a b = nat_cmp a.id b.id

  above : (i : ℕ) (hs : List (Held R)) → AllByRecursion (λ j. nat_cmp i j ≡ Less) (map id_of hs)
      → AllByRecursion (λ (h : Held R). nat_cmp i h.id ≡ Less) hs
  above i [] a = tt
  above i (h ∷ hs) a = (a.0, above i hs a.1)

  above-ids : (i : ℕ) (hs : List (Held R)) → AllByRecursion (λ (h : Held R). nat_cmp i h.id ≡ Less) hs
      → AllByRecursion (λ j. nat_cmp i j ≡ Less) (map id_of hs)
  above-ids i [] a = tt
  above-ids i (h ∷ hs) a = (a.0, above-ids i hs a.1)

  by-ids : (hs : List (Held R)) → IsStrictlySortedBy nat_cmp (map id_of hs) → IsStrictlySortedBy by_id hs
  unfolding IsStrictlySortedBy
  by-ids [] s = tt
  by-ids (h ∷ hs) s = (above h.id hs s.0, by-ids hs s.1)

  ids-of : (hs : List (Held R)) → IsStrictlySortedBy by_id hs → IsStrictlySortedBy nat_cmp (map id_of hs)
  unfolding IsStrictlySortedBy
  ids-of [] s = tt
  ids-of (h ∷ hs) s = (above-ids h.id hs s.0, ids-of hs s.1)

module _ {N R : Type 0} (cmp : N → N → Ordering) (borne : R → List N) (name : N) where
  kept-any : (j : ℕ) (h : Held R) (t : Bool) (rest : List (Held R)) → bears cmp borne name h ≡ t → nat_eq j h.id ≡ false
      → list_any (nat_eq j) (map id_of (filter (bears cmp borne name) (h ∷ rest)))
      ≡ list_any (nat_eq j) (map id_of (filter (bears cmp borne name) rest))
  kept-any j h true rest e n = rw (e, n) refl
  kept-any j h false rest e n = rw e refl

  itself : (j : ℕ) (h : Held R) (t : Bool) (rest : List (Held R)) → bears cmp borne name h ≡ t → nat_eq j h.id ≡ true
      → list_any (nat_eq j) (map id_of (filter (bears cmp borne name) rest)) ≡ false
      → list_any (nat_eq j) (map id_of (filter (bears cmp borne name) (h ∷ rest))) ≡ t
  itself j h true rest e n f = rw (e, n) refl
  itself j h false rest e n f = rw e f

  none-before : (id : ℕ) (slots : List (Option R)) (j : ℕ) → j < id
      → list_any (nat_eq j) (map id_of (filter (bears cmp borne name) (held_from id slots))) ≡ false
  none-before id [] j lt = refl
  none-before id (None ∷ rest) j lt = none-before (id + 1) rest j (omega arith)
  none-before id (Some r ∷ rest) j lt = kept-any j (record { id = id; item = r }) (names cmp (borne r) name)
      (held_from (id + 1) rest) refl (eq-other j id (omega arith)) ∙ none-before (id + 1) rest j (omega arith)

  member : (id : ℕ) (slots : List (Option R)) (i : ℕ)
      → list_any (nat_eq (id + i)) (map id_of (filter (bears cmp borne name) (held_from id slots)))
      ≡ names_at cmp borne (at slots i) name
  member id [] i = refl
  member id (None ∷ rest) zero = none-before (id + 1) rest (id + 0) (omega arith)
  member id (None ∷ rest) (suc i) =
      ap (λ j. list_any (nat_eq j) (map id_of (filter (bears cmp borne name) (held_from (id + 1) rest))))
      (sym (next id i)) ∙ member (id + 1) rest i
  member id (Some r ∷ rest) zero = itself (id + 0) (record { id = id; item = r }) (names cmp (borne r) name)
      (held_from (id + 1) rest) refl (eq-same (id + 0) id (omega arith))
      (none-before (id + 1) rest (id + 0) (omega arith))
  member id (Some r ∷ rest) (suc i) =
      kept-any (id + suc i) (record { id = id; item = r }) (names cmp (borne r) name) (held_from (id + 1) rest) refl
      (eq-other (id + suc i) id (omega arith))
      ∙ ap (λ j. list_any (nat_eq j) (map id_of (filter (bears cmp borne name) (held_from (id + 1) rest))))
      (sym (next id i)) ∙ member (id + 1) rest i

  from-zero : (i : ℕ) → i ≡ 0 + i
  from-zero i = omega arith

  rising-kept : (id : ℕ) (slots : List (Option R))
      → IsStrictlySortedBy nat_cmp (map id_of (filter (bears cmp borne name) (held_from id slots)))
  rising-kept id slots = ids-of (filter (bears cmp borne name) (held_from id slots))
      (IsStrictlySortedBy-filter by_id (bears cmp borne name) (held_from id slots)
      (by-ids (held_from id slots) (ids-rise id slots)))

  pub descended : IsTotalOrder cmp
      → (now : List (Held R)) (slots : List (Option R)) (links : BTreeSet (Link N)) (ids : List ℕ)
      → held_from 0 slots ≡ now → AreLinks cmp borne slots links → length slots < 2 ^ 64 → IsOrdered (by_link cmp) links
      →
      ids ≡ map (λ (q : Link N). q.id)
      (filter (range_contains (by_link cmp) (Included (record { name = name; id = 0 }))
      (Included (record { name = name; id = 18446744073709551615 }))) links.keys) →
      ids ≡ map id_of (filter (bears cmp borne name) now)
  descended total now slots links ids view are short ordered is =
      same-numbers ids (map id_of (filter (bears cmp borne name) (held_from 0 slots)))
      (descending-rise cmp name total links ids ordered is) (rising-kept 0 slots)
      (λ i. descending cmp name borne slots links ids are short is i
      ∙ sym (ap (λ j. list_any (nat_eq j) (map id_of (filter (bears cmp borne name) (held_from 0 slots))))
      (from-zero i) ∙ member 0 slots i))
      ∙ ap (λ h. map id_of (filter (bears cmp borne name) h)) view
