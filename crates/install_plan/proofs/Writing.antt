-- A slot is written, opened, saved or taken out.
use Rattle.std.proofs.Common.{◌≡◌, Bool, true, false, cond, [], ◌∷◌, refl, sym, ap, subst, ◌∙◌, true≢false}
use Rattle.std.specs.Prelude.{Option, Some, None, IsSome, is_some, option_to_list, unwrap_or}
use Rattle.std.specs.BTreeMap.{insert_entry, is_at}
use Rattle.std.specs.List.{AllByRecursion}
use Rattle.std.specs.List.Sorted.{IsStrictlySortedBy}
use Rattle.std.specs.Map.{set_value}
use Rattle.std.specs.Ordering.{is_eq, match_ordering}
use Rattle.std.specs.declared.cmp.Ordering.{Ordering}
use Rattle.std.specs.declared.cmp.Ordering.TheVariants.{Less, Equal, Greater}
use Rattle.std.proofs.lemmas.Map.{keys-set_value}
use Rattle.switch_meaning.proofs.Items.{all-map}
use Rattle.switch_meaning.proofs.Members.{IsIn, all-in, in-all}
use Rattle.install_plan.specs.InsideSlots.{AreKept, Fits, Slots, as_is, as_saved, by_ancestry, first, key_of, order}
use Rattle.install_plan.specs.InsideSlots.{slot_at, table_by, top}
use Rattle.of10_match.specs.Ranges.{IsMatch}
use Rattle.switch_meaning.specs.declared.entry.PhysEntry.{PhysEntry}
use Rattle.install_plan.specs.declared.key.Key.{Key}
use Rattle.install_plan.specs.declared.slot.Slot.{Slot}
use Rattle.install_plan.proofs.Keyed.{Rise, at_exact, flat-alike, flat-opened, flat-written, found-in, found-written}
use Rattle.install_plan.proofs.Keyed.{in-found, none-there}

pub some-cond : (b : Bool) (w : Slot) (o : Option Slot) → IsSome o → IsSome (cond b (Some w) o)
some-cond true w o s = refl
some-cond false w o s = s

-- the key of a slot that is found has one
pub some-found : (k : Key) (slots : Slots) (s : Slot) → slot_at k slots ≡ Some s → IsSome (slot_at k slots)
some-found k slots s e = ap is_some e

-- a slot is written: no other key comes to have one
pub written-only : (k q : Key) (s w : Slot) (slots : Slots) → slot_at k slots ≡ Some s
    → IsSome (slot_at q (set_value (is_at (order k)) slots w)) → IsSome (slot_at q slots)
written-only k q s w slots e t = by (is_at (order k) q) refl
  where
    by : (b : Bool) → is_at (order k) q ≡ b → IsSome (slot_at q slots)
    by true u = subst (λ (z : Key). IsSome (slot_at z slots)) (at_exact k q u) (some-found k slots s e)
    by false u = subst IsSome (found-written k q s w slots e ∙ ap (λ c. cond c (Some w) (slot_at q slots)) u) t

-- what is found, where there is something
pub found : (o : Option Slot) → IsSome o → (s : Slot) × (o ≡ Some s)
found None s = none-there s
found (Some s) t = (s, refl)

pub fit-of : (k : Key) (s : Slot) (slots : Slots) → AllByRecursion Fits slots → slot_at k slots ≡ Some s → Fits (k, s)
fit-of k s [] a e = cc
fit-of k s (p ∷ ps) a e = by (is_at (order k) p.0) refl e (λ f. fit-of k s ps a.1 f)
  where
    by : (b : Bool) → is_at (order k) p.0 ≡ b → cond b (Some p.1) (slot_at k ps) ≡ Some s
        → (slot_at k ps ≡ Some s → Fits (k, s)) → Fits (k, s)
    by true t f rest = let is : p.1 ≡ s = cc in let same = sym (at_exact k p.0 t) in
        subst Fits (λ i. (same i, is i)) a.0
    by false t f rest = rest f

module _ (k : Key) (s w : Slot) where
  abbrev written : Slots → Slots
  written slots = set_value (is_at (order k)) slots w

  written-fit : (slots : Slots) → AllByRecursion Fits slots → Fits (k, w) → AllByRecursion Fits (written slots)
  written-fit [] a f = tt
  written-fit (p ∷ ps) a f = by (is_at (order k) p.0) refl (written-fit ps a.1 f)
    where
      by : (b : Bool) → is_at (order k) p.0 ≡ b → AllByRecursion Fits (written ps)
          → AllByRecursion Fits (cond b ((p.0, w) ∷ ps) (p ∷ written ps))
      by true t rest = (subst (λ (z : Key). Fits (z, w)) (at_exact k p.0 t) f, a.1)
      by false t rest = (a.0, rest)

  written-there : (slots saved : Slots) → slot_at k slots ≡ Some s
      → AllByRecursion (λ (p : Key × Slot). IsSome (slot_at p.0 slots)) saved
      → AllByRecursion (λ (p : Key × Slot). IsSome (slot_at p.0 (written slots))) saved
  written-there slots saved e a =
      all-map (λ (p : Key × Slot). IsSome (slot_at p.0 slots))
      (λ (p : Key × Slot). IsSome (slot_at p.0 (written slots))) saved
      (λ p t. subst IsSome (sym (found-written k p.0 s w slots e))
      (some-cond (is_at (order k) p.0) w (slot_at p.0 slots) t)) a

  pub written-kept : (slots saved : Slots) → slot_at k slots ≡ Some s → Fits (k, w) → AreKept slots saved
      → AreKept (written slots) saved
  written-kept slots saved e f kept = record {
    rise = subst (IsStrictlySortedBy order) (sym (keys-set_value (is_at (order k)) slots w)) kept.rise;
    saved_rise = kept.saved_rise;
    fit = written-fit slots kept.fit f;
    saved_fit = kept.saved_fit;
    there = written-there slots saved e kept.there;
  }

  -- a slot that is saved is read as it was saved
  saved-alike : (saved : Slots) → IsSome (slot_at k saved) → (q : Key) → is_at (order k) q ≡ true
      → as_saved saved (q, w) ≡ as_saved saved (q, s)
  saved-alike saved u q t =
      let f = found (slot_at k saved) u in
      let g : slot_at q saved ≡ Some f.0 = ap (λ (z : Key). slot_at z saved) (sym (at_exact k q t)) ∙ f.1 in
      ap (λ (o : Option Slot). unwrap_or o w) g ∙ sym (ap (λ (o : Option Slot). unwrap_or o s) g)

  pub written-before : (slots saved : Slots) → slot_at k slots ≡ Some s → IsSome (slot_at k saved)
      → table_by (as_saved saved) (written slots) ≡ table_by (as_saved saved) slots
  written-before slots saved e u =
      let a = flat-written (λ p. (as_saved saved p).entries) (is_at (order k)) s w slots e
      (λ q t. ap (λ (z : Slot). z.entries) (saved-alike saved u q t)) in
      let b = flat-written (λ p. option_to_list (top (as_saved saved p))) (is_at (order k)) s w slots e
      (λ q t. ap (λ (z : Slot). option_to_list (top z)) (saved-alike saved u q t)) in
      λ i. record { entries = a i; standing = b i }

-- an empty slot is opened

module _ (k : Key) (w : Slot) where
  abbrev opened : Slots → Slots
  opened slots = insert_entry order slots k w

  opened-found : (q : Key) (slots : Slots) → IsSome (slot_at q slots) → IsSome (slot_at q (opened slots))
  opened-found q [] t = none-there t
  opened-found q (p ∷ ps) t = by (order k p.0) (λ u. opened-found q ps u)
    where
      one : (b : Bool) → IsSome (cond b (Some w) (slot_at q (p ∷ ps)))
      one true = refl
      one false = t

      same : (b : Bool) → IsSome (cond b (Some p.1) (slot_at q ps)) → IsSome (cond b (Some w) (slot_at q ps))
      same true u = refl
      same false u = u

      more : (b : Bool) → IsSome (cond b (Some p.1) (slot_at q ps))
          → (IsSome (slot_at q ps) → IsSome (slot_at q (opened ps)))
          → IsSome (cond b (Some p.1) (slot_at q (opened ps)))
      more true u f = refl
      more false u f = f u

      by : (r : Ordering) → (IsSome (slot_at q ps) → IsSome (slot_at q (opened ps)))
          → IsSome (slot_at q (match_ordering r ((k, w) ∷ p ∷ ps) ((p.0, w) ∷ ps) (p ∷ opened ps)))
      by Less f = one (is_at (order q) k)
      by Equal f = same (is_at (order q) p.0) t
      by Greater f = more (is_at (order q) p.0) t f

  -- what holds of each slot and of the new one
  pub opened-each : (P : Key × Slot → Type 0) (slots : Slots) → slot_at k slots ≡ None → AllByRecursion P slots
      → P (k, w) → AllByRecursion P (opened slots)
  opened-each P [] n a f = (f, tt)
  opened-each P (p ∷ ps) n a f = by (order k p.0) refl (λ m. opened-each P ps m a.1 f)
    where
      by : (r : Ordering) → order k p.0 ≡ r → (slot_at k ps ≡ None → AllByRecursion P (opened ps))
          → AllByRecursion P (match_ordering r ((k, w) ∷ p ∷ ps) ((p.0, w) ∷ ps) (p ∷ opened ps))
      by Less t rest = (f, a)
      by Equal t rest = let g : slot_at k (p ∷ ps) ≡ Some p.1 = ap (λ r. cond (is_eq r) (Some p.1) (slot_at k ps)) t in
          cc
      by Greater t rest = (a.0, rest (sym (ap (λ r. cond (is_eq r) (Some p.1) (slot_at k ps)) t) ∙ n))

  pub opened-kept : (slots saved : Slots) → slot_at k slots ≡ None → Fits (k, w) → Rise (opened slots)
      → AreKept slots saved → AreKept (opened slots) saved
  opened-kept slots saved n f rise kept = record {
    rise = rise;
    saved_rise = kept.saved_rise;
    fit = opened-each Fits slots n kept.fit f;
    saved_fit = kept.saved_fit;
    there = all-map (λ (p : Key × Slot). IsSome (slot_at p.0 slots))
        (λ (p : Key × Slot). IsSome (slot_at p.0 (opened slots))) saved (λ p t. opened-found p.0 slots t) kept.there;
  }

  -- an empty slot shows nowhere
  pub opened-table : (f : Key × Slot → Slot) (slots : Slots) → slot_at k slots ≡ None → (f (k, w)).entries ≡ []
      → table_by f (opened slots) ≡ table_by f slots
  opened-table f slots n e =
      let a = flat-opened (λ p. (f p).entries) k w slots n e in
      let b = flat-opened (λ p. option_to_list (top (f p))) k w slots n (empty-top (f (k, w)) e) in
      λ i. record { entries = a i; standing = b i }
    where
      empty-top : (s : Slot) → s.entries ≡ [] → option_to_list (top s) ≡ []
      empty-top s e = ap (λ es. option_to_list (first es s.cookie)) e

  -- what has no slot isn't saved
  pub unsaved : (slots saved : Slots) → slot_at k slots ≡ None → AreKept slots saved → (o : Option Slot)
      → slot_at k saved ≡ o → o ≡ None
  unsaved slots saved n kept None e = refl
  unsaved slots saved n kept (Some s) e =
      none-there
      (subst IsSome n (in-all (λ (p : Key × Slot). IsSome (slot_at p.0 slots)) (found-in k s saved e) kept.there))

empty-fits : (k : Key) (w : Slot) → w.entries ≡ [] → Fits (k, w)
unfolding IsStrictlySortedBy
empty-fits k w e = record {
  keys = subst (AllByRecursion (λ (d : PhysEntry). (key_of d ≡ k) × IsMatch d.m)) (sym e) tt;
  rising = subst (IsStrictlySortedBy by_ancestry) (sym e) tt;
}

-- nothing was found
pub nothing : (o : Option Slot) (r : Bool) → r ≡ is_some o → r ≡ false → o ≡ None
nothing None r e t = refl
nothing (Some s) r e t = absurd (true≢false (sym e ∙ t))

module _ (k : Key) (w : Slot) (slots slots' : Slots) (is : slots' ≡ insert_entry order slots k w)
    (empty : w.entries ≡ []) (n : slot_at k slots ≡ None) where
  pub open-kept : (saved : Slots) → Rise slots' → AreKept slots saved → AreKept slots' saved
  open-kept saved rise kept = subst (λ (z : Slots). AreKept z saved) (sym is)
      (opened-kept k w slots saved n (empty-fits k w empty) (subst Rise is rise) kept)

  pub open-now : table_by as_is slots' ≡ table_by as_is slots
  open-now = ap (table_by as_is) is ∙ opened-table k w as_is slots n empty

  pub open-before : (saved : Slots) → AreKept slots saved
      → table_by (as_saved saved) slots' ≡ table_by (as_saved saved) slots
  open-before saved kept =
      let none = unsaved k w slots saved n kept (slot_at k saved) refl in
      ap (table_by (as_saved saved)) is
      ∙ opened-table k w (as_saved saved) slots n (ap (λ (o : Option Slot). (unwrap_or o w).entries) none ∙ empty)

module _ (k : Key) (s : Slot) (slots saved saved' : Slots) (e : slot_at k slots ≡ Some s) (n : slot_at k saved ≡ None)
    (kept : AreKept slots saved) where
  pub save-kept : saved' ≡ insert_entry order saved k s → Rise saved' → AreKept slots saved'
  save-kept is rise = record {
    rise = kept.rise;
    saved_rise = rise;
    fit = kept.fit;
    saved_fit = subst (AllByRecursion Fits) (sym is)
        (opened-each k s Fits saved n kept.saved_fit (fit-of k s slots kept.fit e));
    there = subst (AllByRecursion (λ (p : Key × Slot). IsSome (slot_at p.0 slots))) (sym is)
        (opened-each k s (λ (p : Key × Slot). IsSome (slot_at p.0 slots)) saved n kept.there (some-found k slots s e));
  }

  pub save-before : ((q : Key) → slot_at q saved' ≡ cond (is_at (order k) q) (Some s) (slot_at q saved))
      → table_by (as_saved saved') slots ≡ table_by (as_saved saved) slots
  save-before at =
      let a = flat-alike (λ p. (as_saved saved' p).entries) (λ p. (as_saved saved p).entries) slots
      (all-in (λ (p : Key × Slot). (as_saved saved' p).entries ≡ (as_saved saved p).entries) slots
      (λ p i. ap (λ (z : Slot). z.entries) (same p i))) in
      let b = flat-alike (λ p. option_to_list (top (as_saved saved' p))) (λ p. option_to_list (top (as_saved saved p)))
      slots
      (all-in (λ (p : Key × Slot). option_to_list (top (as_saved saved' p))
      ≡ option_to_list (top (as_saved saved p))) slots
      (λ p i. ap (λ (z : Slot). option_to_list (top z)) (same p i))) in
      λ i. record { entries = a i; standing = b i }
    where
      same : (p : Key × Slot) → IsIn p slots → as_saved saved' p ≡ as_saved saved p
      same p i = by (is_at (order k) p.0) refl
        where
          by : (b : Bool) → is_at (order k) p.0 ≡ b → as_saved saved' p ≡ as_saved saved p
          by true t =
              let l : slot_at p.0 saved' ≡ Some s = at p.0 ∙ ap (λ c. cond c (Some s) (slot_at p.0 saved)) t in
              let key = at_exact k p.0 t in
              let m : slot_at p.0 saved ≡ None = ap (λ (z : Key). slot_at z saved) (sym key) ∙ n in
              let g : Some p.1 ≡ Some s = sym (in-found p.0 p.1 slots kept.rise i)
              ∙ (ap (λ (z : Key). slot_at z slots) (sym key) ∙ e) in
              let h : p.1 ≡ s = cc in
              ap (λ (o : Option Slot). unwrap_or o p.1) l ∙ (sym h ∙ sym (ap (λ (o : Option Slot). unwrap_or o p.1) m))
          by false t = ap (λ (o : Option Slot). unwrap_or o p.1)
              (at p.0 ∙ ap (λ c. cond c (Some s) (slot_at p.0 saved)) t)

-- a key that has no slot
pub set-none : (k : Key) (w : Slot) (slots : Slots) → slot_at k slots ≡ None
    → set_value (is_at (order k)) slots w ≡ slots
set-none k w [] n = refl
set-none k w (p ∷ ps) n = by (is_at (order k) p.0) n (λ m. set-none k w ps m)
  where
    by : (b : Bool) → cond b (Some p.1) (slot_at k ps) ≡ None
        → (slot_at k ps ≡ None → set_value (is_at (order k)) ps w ≡ ps)
        → cond b ((p.0, w) ∷ ps) (p ∷ set_value (is_at (order k)) ps w) ≡ p ∷ ps
    by true m rest = cc
    by false m rest = ap (λ qs. p ∷ qs) (rest m)
