-- Slots are made what they were, or kept as they are.
use Rattle.std.proofs.Common.{◌≡◌, Bool, true, false, cond, List, [], ◌∷◌, ◌++◌, refl, sym, ap, subst, ◌∙◌}
use Rattle.std.specs.Prelude.{Option, Some, None, IsSome, flat_map, option_to_list, unwrap_or}
use Rattle.std.specs.BTreeMap.{is_at}
use Rattle.std.specs.List.{AllByRecursion}
use Rattle.std.specs.List.Sorted.{IsStrictlySortedBy}
use Rattle.std.specs.Map.{keys_of, remove_entry, set_value}
use Rattle.std.specs.Ordering.{is_eq}
use Rattle.std.specs.declared.cmp.Ordering.TheVariants.{Less}
use Rattle.std.proofs.lemmas.Map.{lookup-remove_entry}
use Rattle.std.proofs.lemmas.Map.Keys.{IsDistinct-from_sorted}
use Rattle.switch_meaning.proofs.Members.{IsIn, all-in, in-all}
use Rattle.switch_meaning.specs.declared.entry.PhysEntry.{PhysEntry}
use Rattle.install_plan.specs.InsideSlots.{AreKept, Fits, Slots, as_is, as_saved, first, if_empty, order, restored}
use Rattle.install_plan.specs.InsideSlots.{slot_at, table_by, top, without, without_empty, without_if_empty}
use Rattle.install_plan.specs.Tables.{TableOf}
use Rattle.install_plan.specs.declared.key.Key.{Key}
use Rattle.install_plan.specs.declared.slot.Slot.{Slot}
use Rattle.install_plan.proofs.Keyed.{Rise, at_exact, at_flips, equal_keys, flat-alike, flat-dropped, in-found}
use Rattle.install_plan.proofs.Keyed.{key-above}
use Rattle.install_plan.proofs.Merging.{below-none}
use Rattle.install_plan.proofs.Writing.{found, written-kept}

module _ (k : Key) (old : Slot) (rest : Slots) (rises : AllByRecursion (λ (z : Key). order k z ≡ Less) (keys_of rest))
  where
    abbrev saved : Slots
    saved = (k, old) ∷ rest

    -- a key that differs is looked up among the others
    other : (q : Key) → is_at (order k) q ≡ false → slot_at q saved ≡ slot_at q rest
    other q f = ap (λ b. cond b (Some old) (slot_at q rest)) (at_flips q k ∙ f)

    apart : (p q : Key × Slot) → is_at (order k) p.0 ≡ true → order p.0 q.0 ≡ Less → is_at (order k) q.0 ≡ false
    apart p q t l = ap is_eq (ap (λ (z : Key). order z q.0) (at_exact k p.0 t) ∙ l)

    module _ {A : Type 0} (g : Slot → List A) where
      abbrev F : Key × Slot → List A
      F p = g (as_saved rest p)

      abbrev F' : Key × Slot → List A
      F' p = g (as_saved saved p)

      alike : (p : Key × Slot) → is_at (order k) p.0 ≡ false → F p ≡ F' p
      alike p f = ap (λ (o : Option Slot). g (unwrap_or o p.1)) (sym (other p.0 f))

      after-alike : (p : Key × Slot) (ps : Slots) → is_at (order k) p.0 ≡ true
          → AllByRecursion (λ (z : Key). order p.0 z ≡ Less) (keys_of ps) → flat_map F ps ≡ flat_map F' ps
      after-alike p ps t a =
          flat-alike F F' ps (all-in (λ (q : Key × Slot). F q ≡ F' q) ps
          (λ q i. alike q (apart p q t (key-above p.0 q i a))))

      it-was : (p : Key × Slot) → is_at (order k) p.0 ≡ true → F' p ≡ g old
      it-was p t =
          let same : slot_at p.0 saved ≡ Some old =
          ap (λ b. cond b (Some old) (slot_at p.0 rest)) (at_flips p.0 k ∙ t) in
          ap (λ (o : Option Slot). g (unwrap_or o p.1)) same

      it-is : (p : Key × Slot) → is_at (order k) p.0 ≡ true → F (p.0, old) ≡ g old
      it-is p t =
          let none : slot_at p.0 rest ≡ None = ap (λ (z : Key). slot_at z rest) (sym (at_exact k p.0 t))
          ∙ below-none k rest rises in
          ap (λ (o : Option Slot). g (unwrap_or o old)) none

      flat-restored : (slots : Slots) → Rise slots
          → flat_map F (set_value (is_at (order k)) slots old) ≡ flat_map F' slots
      unfolding IsStrictlySortedBy
      flat-restored [] r = refl
      flat-restored (p ∷ ps) r = by (is_at (order k) p.0) refl (flat-restored ps r.1)
        where
          by : (b : Bool) → is_at (order k) p.0 ≡ b → flat_map F (set_value (is_at (order k)) ps old) ≡ flat_map F' ps
              → flat_map F (cond b ((p.0, old) ∷ ps) (p ∷ set_value (is_at (order k)) ps old)) ≡ flat_map F' (p ∷ ps)
          by true t rest = let a = it-is p t ∙ sym (it-was p t) in let b = after-alike p ps t r.0 in λ i. a i ++ b i
          by false f rest = let a = alike p f in λ i. a i ++ rest i

      flat-removed : (slots : Slots) → Rise slots → g old ≡ []
          → flat_map F (remove_entry (is_at (order k)) slots) ≡ flat_map F' slots
      unfolding IsStrictlySortedBy
      flat-removed [] r n = refl
      flat-removed (p ∷ ps) r n = by (is_at (order k) p.0) refl (flat-removed ps r.1 n)
        where
          by : (b : Bool) → is_at (order k) p.0 ≡ b → flat_map F (remove_entry (is_at (order k)) ps) ≡ flat_map F' ps
              → flat_map F (cond b ps (p ∷ remove_entry (is_at (order k)) ps)) ≡ flat_map F' (p ∷ ps)
          by true t rest = after-alike p ps t r.0 ∙ sym (ap (λ xs. xs ++ flat_map F' ps) (it-was p t ∙ n))
          by false f rest = let a = alike p f in λ i. a i ++ rest i

empty-top : (s : Slot) → s.entries ≡ [] → option_to_list (top s) ≡ []
empty-top s e = ap (λ es. option_to_list (first es s.cookie)) e

removed-fit : (k : Key) (slots : Slots) → AllByRecursion Fits slots → AllByRecursion Fits (without k slots)
removed-fit k [] a = tt
removed-fit k (p ∷ ps) a = by (is_at (order k) p.0) (removed-fit k ps a.1)
  where
    by : (b : Bool) → AllByRecursion Fits (without k ps) → AllByRecursion Fits (cond b ps (p ∷ without k ps))
    by true rest = a.1
    by false rest = (a.0, rest)

removed-above : (k : Key) (P : Key → Type 0) (slots : Slots) → AllByRecursion P (keys_of slots)
    → AllByRecursion P (keys_of (without k slots))
removed-above k P [] a = tt
removed-above k P (p ∷ ps) a = by (is_at (order k) p.0) (removed-above k P ps a.1)
  where
    by : (b : Bool) → AllByRecursion P (keys_of (without k ps))
        → AllByRecursion P (keys_of (cond b ps (p ∷ without k ps)))
    by true rest = a.1
    by false rest = (a.0, rest)

removed-rise : (k : Key) (slots : Slots) → Rise slots → Rise (without k slots)
unfolding IsStrictlySortedBy
removed-rise k [] r = tt
removed-rise k (p ∷ ps) r = by (is_at (order k) p.0) (removed-rise k ps r.1)
  where
    by : (b : Bool) → Rise (without k ps) → Rise (cond b ps (p ∷ without k ps))
    by true rest = r.1
    by false rest = (removed-above k (λ (z : Key). order p.0 z ≡ Less) ps r.0, rest)

removed-there : (k : Key) (slots rest : Slots) → Rise slots
    → AllByRecursion (λ (z : Key). order k z ≡ Less) (keys_of rest)
    → AllByRecursion (λ (p : Key × Slot). IsSome (slot_at p.0 slots)) rest
    → AllByRecursion (λ (p : Key × Slot). IsSome (slot_at p.0 (without k slots))) rest
removed-there k slots rest r b a =
    all-in (λ (p : Key × Slot). IsSome (slot_at p.0 (without k slots))) rest
    (λ p i. let differs : is_at (order k) p.0 ≡ false = ap is_eq (key-above k p i b) in
    let l = lookup-remove_entry equal_keys (is_at (order k))
    (λ x y t. ap (λ (z : Key). is_at (order z) y) (at_exact k x t)) p.0 slots
    (IsDistinct-from_sorted order (keys_of slots) r) in
    subst IsSome (sym (l ∙ ap (λ c. cond c None (slot_at p.0 slots)) differs))
    (in-all (λ (p : Key × Slot). IsSome (slot_at p.0 slots)) i a))

-- what is saved but for the first
pub kept-rest : (slots rest : Slots) (k : Key) (old : Slot) → AreKept slots ((k, old) ∷ rest) → AreKept slots rest
unfolding IsStrictlySortedBy
kept-rest slots rest k old kept =
    record {
      rise = kept.rise;
      saved_rise = kept.saved_rise.1;
      fit = kept.fit;
      saved_fit = kept.saved_fit.1;
      there = kept.there.1;
    }

above-rest : (slots rest : Slots) (k : Key) (old : Slot) → AreKept slots ((k, old) ∷ rest)
    → AllByRecursion (λ (z : Key). order k z ≡ Less) (keys_of rest)
unfolding IsStrictlySortedBy
above-rest slots rest k old kept = kept.saved_rise.0

removed-kept : (slots rest : Slots) (k : Key) (old : Slot) → AreKept slots ((k, old) ∷ rest)
    → AreKept (without k slots) rest
removed-kept slots rest k old kept =
    let r = kept-rest slots rest k old kept in
    record {
      rise = removed-rise k slots kept.rise;
      saved_rise = r.saved_rise;
      fit = removed-fit k slots kept.fit;
      saved_fit = r.saved_fit;
      there = removed-there k slots rest kept.rise (above-rest slots rest k old kept) r.there;
    }

-- one slot is made what it was

pub restored-kept : (slots rest : Slots) (k : Key) (old : Slot) → AreKept slots ((k, old) ∷ rest)
    → AreKept (restored k old slots) rest
restored-kept slots rest k old kept = by old.entries
  where
    f : (s : Slot) × (slot_at k slots ≡ Some s)
    f = found (slot_at k slots) kept.there.0

    by : (es : List PhysEntry) → AreKept (if_empty es (without k slots) (set_value (is_at (order k)) slots old)) rest
    by [] = removed-kept slots rest k old kept
    by (e ∷ es) = kept-rest (set_value (is_at (order k)) slots old) rest k old
        (written-kept k f.0 old slots ((k, old) ∷ rest) f.1 kept.saved_fit.0 kept)

pub restored-table : (slots rest : Slots) (k : Key) (old : Slot) → AreKept slots ((k, old) ∷ rest)
    → table_by (as_saved rest) (restored k old slots) ≡ table_by (as_saved ((k, old) ∷ rest)) slots
restored-table slots rest k old kept = by old.entries refl
  where
    above : AllByRecursion (λ (z : Key). order k z ≡ Less) (keys_of rest)
    above = above-rest slots rest k old kept

    by : (es : List PhysEntry) → old.entries ≡ es
        → table_by (as_saved rest) (if_empty es (without k slots) (set_value (is_at (order k)) slots old))
        ≡ table_by (as_saved ((k, old) ∷ rest)) slots
    by [] n =
        let a = flat-removed k old rest above (λ s. s.entries) slots kept.rise n in
        let b = flat-removed k old rest above (λ s. option_to_list (top s)) slots kept.rise (empty-top old n) in
        λ i. record { entries = a i; standing = b i }
    by (e ∷ es) n =
        let a = flat-restored k old rest above (λ s. s.entries) slots kept.rise in
        let b = flat-restored k old rest above (λ s. option_to_list (top s)) slots kept.rise in
        λ i. record { entries = a i; standing = b i }

-- an empty slot is taken out

pub dropped-kept : (slots rest : Slots) (k : Key) (old : Slot) → AreKept slots ((k, old) ∷ rest)
    → AreKept (without_empty k slots) rest
dropped-kept slots rest k old kept = by (slot_at k slots)
  where
    one : (es : List PhysEntry) → AreKept (if_empty es (without k slots) slots) rest
    one [] = removed-kept slots rest k old kept
    one (e ∷ es) = kept-rest slots rest k old kept

    by : (o : Option Slot) → AreKept (without_if_empty o k slots) rest
    by None = kept-rest slots rest k old kept
    by (Some s) = one s.entries

pub dropped-table : (slots : Slots) (k : Key) → Rise slots
    → table_by as_is (without_empty k slots) ≡ table_by as_is slots
dropped-table slots k rise = by (slot_at k slots) refl
  where
    one : (s : Slot) → slot_at k slots ≡ Some s → (es : List PhysEntry) → s.entries ≡ es
        → table_by as_is (if_empty es (without k slots) slots) ≡ table_by as_is slots
    one s f [] n =
        let a = flat-dropped (λ (p : Key × Slot). p.1.entries) (is_at (order k)) slots
        (all-in (λ (p : Key × Slot). is_at (order k) p.0 ≡ true
        → p.1.entries ≡ []) slots (λ p i t. ap (λ (z : Slot). z.entries) (same p i t) ∙ n)) in
        let b = flat-dropped (λ (p : Key × Slot). option_to_list (top p.1)) (is_at (order k)) slots
        (all-in (λ (p : Key × Slot). is_at (order k) p.0 ≡ true
        → option_to_list (top p.1) ≡ []) slots (λ p i t. ap (λ (z : Slot). option_to_list (top z)) (same p i t)
        ∙ empty-top s n)) in
        λ i. record { entries = a i; standing = b i }
      where
        same : (p : Key × Slot) → IsIn p slots → is_at (order k) p.0 ≡ true → p.1 ≡ s
        same p i t =
            let g : Some p.1 ≡ Some s = sym (in-found p.0 p.1 slots rise i)
            ∙ (ap (λ (z : Key). slot_at z slots) (sym (at_exact k p.0 t)) ∙ f) in
            let h : p.1 ≡ s = cc in h
    one s f (e ∷ es) n = refl

    by : (o : Option Slot) → slot_at k slots ≡ o → table_by as_is (without_if_empty o k slots) ≡ table_by as_is slots
    by None f = refl
    by (Some s) f = one s f s.entries refl

-- one turn of the loops

pub keep-step : (slots saved rest slots' : Slots) (k : Key) (old : Slot) (t : TableOf) → saved ≡ (k, old) ∷ rest
    → slots' ≡ without_empty k slots
    → AreKept slots saved × (table_by as_is slots ≡ t) → AreKept slots' rest × (table_by as_is slots' ≡ t)
keep-step slots saved rest slots' k old t e is i =
    let kept = subst (AreKept slots) e i.0 in (
      subst (λ (z : Slots). AreKept z rest) (sym is) (dropped-kept slots rest k old kept),
      ap (table_by as_is) is
          ∙ (dropped-table slots k kept.rise ∙ i.1),
    )

pub restore-there : (slots saved rest : Slots) (k : Key) (old : Slot) → saved ≡ (k, old) ∷ rest → AreKept slots saved
    → IsSome (slot_at k slots)
restore-there slots saved rest k old e kept = (subst (AreKept slots) e kept).there.0

pub restore-step : (slots saved rest slots' : Slots) (k : Key) (old : Slot) (t : TableOf) → saved ≡ (k, old) ∷ rest
    → slots' ≡ restored k old slots
    → AreKept slots saved × (table_by (as_saved saved) slots ≡ t)
    → AreKept slots' rest × (table_by (as_saved rest) slots' ≡ t)
restore-step slots saved rest slots' k old t e is i =
    let kept = subst (AreKept slots) e i.0 in (
      subst (λ (z : Slots). AreKept z rest) (sym is) (restored-kept slots rest k old kept),
      ap (table_by (as_saved rest)) is
          ∙ (restored-table slots rest k old kept ∙ (ap (λ (z : Slots). table_by (as_saved z) slots) (sym e) ∙ i.1)),
    )
