-- Entries are taken out of their slots and put in.
use Rattle.std.proofs.Common.{◌≡◌, Bool, true, false, List, [], ◌∷◌, refl, sym, ap, subst, ◌∙◌, arith, count_by}
use Rattle.std.proofs.Common.{true≢false}
use Rattle.std.specs.Prelude.{Option, Some, None, IfSome, IsSome, MatchOption, OnOk, Ok, Err, Result, flat_map, is_ok}
use Rattle.std.specs.BTreeMap.{is_at}
use Rattle.std.specs.List.{Contains, list_any}
use Rattle.std.specs.Map.{set_value}
use Rattle.std.specs.Ordering.{is_eq, ordering_then}
use Rattle.std.specs.declared.cmp.Ordering.TheVariants.{Equal}
use Rattle.std.proofs.lemmas.Cmp.{tied_itself}
use Rattle.of10_match.specs.Ranges.{IsMatch}
use Rattle.switch_meaning.specs.declared.entry.PhysEntry.{PhysEntry}
use Rattle.switch_meaning.proofs.Items.{fails}
use Rattle.switch_meaning.proofs.Members.{any-passes, from-place, in-all, passes-any, place}
use Rattle.install_plan.specs.InsideSlots.{AreKept, Fits, IsPutInto, IsTakenFrom, Slots, as_saved, by_ancestry, key_of}
use Rattle.install_plan.specs.InsideSlots.{order, slot_at, table_by}
use Rattle.install_plan.specs.Tables.{Adds, same_place}
use Rattle.install_plan.specs.declared.key.Key.{Key}
use Rattle.install_plan.specs.declared.slot.Slot.{Slot}
use Rattle.install_plan.proofs.Counting.{count-written}
use Rattle.install_plan.proofs.Keyed.{flat-in, found-in, in-flat, in-found, none-there, order_total}
use Rattle.install_plan.proofs.Writing.{fit-of, some-found, written-before, written-kept, written-only}

abbrev pub all : Slots → List PhysEntry
all slots = flat_map (λ (p : Key × Slot). p.1.entries) slots

-- the slot in which an entry stands
pub record Stood (e : PhysEntry) (slots : Slots) : Type 0 where
  pub slot : Slot
  pub found : slot_at (key_of e) slots ≡ Some slot
  pub there : Contains slot.entries e
  pub fits : Fits (key_of e, slot)

pub stood : (e : PhysEntry) (slots saved : Slots) → AreKept slots saved → Contains (all slots) e → Stood e slots
stood e slots saved kept c =
    let s = flat-in (λ (p : Key × Slot). p.1.entries) e slots (from-place e (all slots) c) in
    let f = in-all Fits s.stands kept.fit in
    let k = (in-all (λ (d : PhysEntry). (key_of d ≡ s.from.0) × IsMatch d.m) s.has f.keys).0 in
    let g = ap (λ (z : Key). slot_at z slots) k ∙ in-found s.from.0 s.from.1 slots kept.rise s.stands in
    record {
      slot = s.from.1;
      found = g;
      there = place e s.from.1.entries s.has;
      fits = subst (λ (z : Key). Fits (z, s.from.1)) (sym k) f;
    }

-- another look-up finds the same
pub the-slot : (k : Key) (slots : Slots) (s t : Slot) → slot_at k slots ≡ Some s → slot_at k slots ≡ Some t → s ≡ t
the-slot k slots s t e f = cc

module _ (k : Key) (s w : Slot) (slots : Slots) (e : PhysEntry) (found : slot_at k slots ≡ Some s) where
  abbrev written : Slots
  written = set_value (is_at (order k)) slots w

  pub taken-all : Adds e w.entries s.entries → Adds e (all written) (all slots)
  taken-all a p =
      let one = count-written p (λ (q : Key × Slot). q.1.entries) (is_at (order k)) s w slots (count_by p (e ∷ [])) 0
      found (λ q t. let b = a p in omega (arith, b)) in
      omega (arith, one)

  pub added-all : Adds e s.entries w.entries → Adds e (all slots) (all written)
  added-all a p =
      let one = count-written p (λ (q : Key × Slot). q.1.entries) (is_at (order k)) s w slots 0 (count_by p (e ∷ []))
      found (λ q t. let b = a p in omega (arith, b)) in
      omega (arith, one)

-- an entry that has a place of its own has an ancestry of its own in its slot
pub apart-slot : (e : PhysEntry) (slots : Slots) (s : Slot) → list_any (same_place e) (all slots) ≡ false
    → slot_at (key_of e) slots ≡ Some s → Fits (key_of e, s)
    → list_any (λ (d : PhysEntry). is_eq (by_ancestry e d)) s.entries ≡ false
apart-slot e slots s n f fits = fails (list_any (λ (d : PhysEntry). is_eq (by_ancestry e d)) s.entries) clash
  where
    clash : list_any (λ (d : PhysEntry). is_eq (by_ancestry e d)) s.entries ≡ true → ⊥
    clash t =
        let a = any-passes (λ (d : PhysEntry). is_eq (by_ancestry e d)) s.entries t in
        let k = (in-all (λ (d : PhysEntry). (key_of d ≡ key_of e) × IsMatch d.m) a.stands fits.keys).0 in
        let tied : order (key_of e) (key_of a.item) ≡ Equal = ap (λ (z : Key). order (key_of e) z) k
        ∙ tied_itself order_total (key_of e) in
        let same : same_place e a.item ≡ true = ap (λ r. is_eq (ordering_then r (by_ancestry e a.item))) tied
        ∙ a.passes in
        let any : list_any (same_place e) (all slots) ≡ true =
        passes-any (same_place e)
        (in-flat (λ (p : Key × Slot). p.1.entries) (found-in (key_of e) s slots f) a.stands) same in
        true≢false (sym any ∙ n)

-- after an entry was taken out

module _ (k : Key) (e : PhysEntry) (slots slots' saved : Slots) (key : k ≡ key_of e) (kept : AreKept slots saved) where
  abbrev Taken : Option Slot → Type 0
  Taken o = MatchOption o (slots' ≡ slots) (IsTakenFrom e slots slots')

  at-key : (s : Slot) → slot_at k slots ≡ Some s → slot_at (key_of e) slots ≡ Some s
  at-key s f = ap (λ (z : Key). slot_at z slots) (sym key) ∙ f

  pub taken-kept : Taken (slot_at k slots) → AreKept slots' saved
  taken-kept t = by (slot_at k slots) refl t
    where
      by : (o : Option Slot) → slot_at k slots ≡ o → Taken o → AreKept slots' saved
      by None f t = subst (λ (z : Slots). AreKept z saved) (sym t) kept
      by (Some s) f t = subst (λ (z : Slots). AreKept z saved) (sym t.written)
          (written-kept (key_of e) s t.slot slots saved (at-key s f) t.fits kept)

  -- no other key comes to have a slot
  pub taken-only : Taken (slot_at k slots) → (q : Key) → IsSome (slot_at q slots') → IsSome (slot_at q slots)
  taken-only t q u = by (slot_at k slots) refl t
    where
      by : (o : Option Slot) → slot_at k slots ≡ o → Taken o → IsSome (slot_at q slots)
      by None f t = subst (λ (z : Slots). IsSome (slot_at q z)) t u
      by (Some s) f t = written-only (key_of e) q s t.slot slots (at-key s f)
          (subst (λ (z : Slots). IsSome (slot_at q z)) t.written u)

  pub taken-before : Taken (slot_at k slots) → (IsSome (slot_at k slots) → IsSome (slot_at k saved))
      → table_by (as_saved saved) slots' ≡ table_by (as_saved saved) slots
  taken-before t there = by (slot_at k slots) refl t
    where
      by : (o : Option Slot) → slot_at k slots ≡ o → Taken o
          → table_by (as_saved saved) slots' ≡ table_by (as_saved saved) slots
      by None f t = ap (table_by (as_saved saved)) t
      by (Some s) f t =
          ap (table_by (as_saved saved)) t.written
          ∙ written-before (key_of e) s t.slot slots saved (at-key s f)
          (subst (λ (z : Key). IsSome (slot_at z saved)) key (there (some-found k slots s f)))

  pub taken-now : Taken (slot_at k slots) → Contains (all slots) e → Adds e (all slots') (all slots)
  taken-now t c = by (slot_at k slots) refl t
    where
      o : Stood e slots
      o = stood e slots saved kept c

      none : slot_at k slots ≡ None → Adds e (all slots') (all slots)
      none f =
          none-there (subst IsSome (sym (ap (λ (z : Key). slot_at z slots) key) ∙ f)
          (some-found (key_of e) slots o.slot o.found))

      by : (x : Option Slot) → slot_at k slots ≡ x → Taken x → Adds e (all slots') (all slots)
      by None f t = none f
      by (Some s) f t =
          let same = the-slot (key_of e) slots o.slot s o.found (at-key s f) in
          let adds = t.taken (subst (λ (z : Slot). Contains z.entries e) same o.there) in
          subst (λ (z : Slots). Adds e (all z) (all slots)) (sym t.written)
          (taken-all (key_of e) s t.slot slots e (at-key s f) adds)

-- after an entry was put in

module _ (put : Bool) (k : Key) (e : PhysEntry) (slots slots' saved : Slots) (key : k ≡ key_of e)
    (kept : AreKept slots saved) (there : IsSome (slot_at k slots)) where
  abbrev Put : Option Slot → Type 0
  Put o = IfSome o (IsPutInto put e slots slots')

  at-key' : (s : Slot) → slot_at k slots ≡ Some s → slot_at (key_of e) slots ≡ Some s
  at-key' s f = ap (λ (z : Key). slot_at z slots) (sym key) ∙ f

  pub put-only : Put (slot_at k slots) → (q : Key) → IsSome (slot_at q slots') → IsSome (slot_at q slots)
  put-only t q u = by (slot_at k slots) refl there t
    where
      by : (o : Option Slot) → slot_at k slots ≡ o → IsSome o → Put o → IsSome (slot_at q slots)
      by None f there t = none-there there
      by (Some s) f there t = written-only (key_of e) q s t.slot slots (at-key' s f)
          (subst (λ (z : Slots). IsSome (slot_at q z)) t.written u)

  pub put-kept : Put (slot_at k slots) → AreKept slots' saved
  put-kept t = by (slot_at k slots) refl there t
    where
      by : (o : Option Slot) → slot_at k slots ≡ o → IsSome o → Put o → AreKept slots' saved
      by None f u t = none-there u
      by (Some s) f u t = subst (λ (z : Slots). AreKept z saved) (sym t.written)
          (written-kept (key_of e) s t.slot slots saved (at-key' s f) t.fits kept)

  pub put-before : Put (slot_at k slots) → IsSome (slot_at k saved)
      → table_by (as_saved saved) slots' ≡ table_by (as_saved saved) slots
  put-before t v = by (slot_at k slots) refl there t
    where
      by : (o : Option Slot) → slot_at k slots ≡ o → IsSome o → Put o
          → table_by (as_saved saved) slots' ≡ table_by (as_saved saved) slots
      by None f u t = none-there u
      by (Some s) f u t =
          ap (table_by (as_saved saved)) t.written
          ∙ written-before (key_of e) s t.slot slots saved (at-key' s f)
          (subst (λ (z : Key). IsSome (slot_at z saved)) key v)

  pub put-now : Put (slot_at k slots) → put ≡ true → list_any (same_place e) (all slots) ≡ false
      → Adds e (all slots) (all slots')
  put-now t ok n = by (slot_at k slots) refl there t
    where
      by : (o : Option Slot) → slot_at k slots ≡ o → IsSome o → Put o → Adds e (all slots) (all slots')
      by None f u t = none-there u
      by (Some s) f u t =
          let fits = fit-of (key_of e) s slots kept.fit (at-key' s f) in
          subst (λ (z : Slots). Adds e (all slots) (all z)) (sym t.written)
          (added-all (key_of e) s t.slot slots e (at-key' s f)
          (t.added ok (apart-slot e slots s n (at-key' s f) fits)))

-- answers of calls that may want memory

pub ok-holds : {T E P : Type 0} (r : Result T E) → is_ok r ≡ true → OnOk r P → P
ok-holds (Ok x) t p = p
ok-holds (Err e) t p = absurd (true≢false (sym t))

pub on-ok : {T E P : Type 0} (r : Result T E) → (is_ok r ≡ true → P) → OnOk r P
on-ok (Ok x) f = f refl
on-ok (Err e) f = tt
