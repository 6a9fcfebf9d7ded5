-- A batch is made slot by slot.
use Rattle.std.proofs.Common.{◌≡◌, ℕ, List, [], ◌∷◌, ◌++◌, refl, sym, ap, subst, ◌∙◌, append-nil}
use Rattle.std.specs.Prelude.{Some, IsSome, flat_map, option_to_list}
use Rattle.std.specs.BTreeMap.{is_at}
use Rattle.std.specs.List.{AllByRecursion}
use Rattle.switch_meaning.specs.declared.entry.PhysEntry.{PhysEntry}
use Rattle.switch_meaning.proofs.Members.{all-in, in-all}
use Rattle.install_plan.specs.InsideNumbering.{IsNumberedAt, come, cookie_for, entries_at, gone, head, numbered_at}
use Rattle.install_plan.specs.InsideNumbering.{past}
use Rattle.install_plan.specs.InsideSlots.{AreKept, Slots, as_is, as_saved, order, slot_at, table_by}
use Rattle.install_plan.specs.Tables.{IsBatch, numbered}
use Rattle.install_plan.specs.declared.key.Key.{Key}
use Rattle.install_plan.specs.declared.slot.Slot.{Slot}
use Rattle.install_plan.specs.declared.written.Batch.{Batch}
use Rattle.install_plan.specs.declared.written.Written.{Written}
use Rattle.install_plan.proofs.Batched.{heads_by, is-batch}
use Rattle.install_plan.proofs.Keyed.{flat-written, found-in, in-found}
use Rattle.install_plan.proofs.Cookies.{Stands, entries-kept, list-step, new_slot, numbered-entries, numbered-fits}
use Rattle.install_plan.proofs.Cookies.{numbered-step, same-entries, saved-stood, stands-first, stands-step}
use Rattle.install_plan.proofs.Writing.{found, some-found, written-before, written-kept, written-only}

abbrev pub leaves : Slots → Slots → List Written
leaves slots rest = flat_map (λ p. option_to_list (gone p.1 (entries_at slots p.0))) rest

abbrev pub comes : Slots → Slots → List PhysEntry
comes slots rest = flat_map (λ p. option_to_list (come p.1 (entries_at slots p.0))) rest

-- the slots but for their cookies
pub record IsAlike (first saved slots : Slots) : Type 0 where
  pub kept : AreKept slots saved
  pub entries : (table_by as_is slots).entries ≡ (table_by as_is first).entries
  pub heads : heads_by as_is slots ≡ heads_by as_is first
  pub before : table_by (as_saved saved) slots ≡ table_by (as_saved saved) first
  pub under : (q : Key) → entries_at slots q ≡ entries_at first q
  pub only : (q : Key) → IsSome (slot_at q slots) → IsSome (slot_at q first)

-- what is left of the saved slots makes of the batch the whole one
pub record IsNumbered (first saved : Slots) (next : ℕ) (rest slots : Slots) (b : Batch) (cookie : ℕ) : Type 0 where
  pub kept : AreKept first saved
  pub alike : IsAlike first saved slots
  pub left : AllByRecursion (λ (p : Key × Slot). slot_at p.0 saved ≡ Some p.1) rest
  pub deletes : b.deletes ++ leaves first rest ≡ leaves first saved
  pub adds : b.adds ++ numbered cookie (comes first rest) ≡ numbered next (comes first saved)
  pub stands : Stands (table_by (as_saved saved) first).standing b.adds rest slots

pub alike-itself : (slots saved : Slots) → AreKept slots saved → IsAlike slots saved slots
alike-itself slots saved kept =
    record { kept = kept; entries = refl; heads = refl; before = refl; under = λ q. refl; only = λ q s. s }

-- another cookie
pub alike-numbered : (first saved slots slots' : Slots) (k : Key) → IsSome (slot_at k slots) → IsSome (slot_at k saved)
    → IsNumberedAt k slots slots' → IsAlike first saved slots → IsAlike first saved slots'
alike-numbered first saved slots slots' k t u n a =
    let f = found (slot_at k slots) t in
    let c = n.0 in
    let e = f.1 in
    let same = sym (same-entries k c slots f.0 e) in
    let w = new_slot k c slots f.0 e in
    let heads = flat-written (λ (p : Key × Slot). option_to_list (head p.1.entries)) (is_at (order k)) f.0 w slots e
    (λ q v. ap (λ es. option_to_list (head es)) same) in
    subst (IsAlike first saved) (sym n.1) (record {
      kept = written-kept k f.0 w slots saved e (numbered-fits k c slots f.0 e a.kept.fit) a.kept;
      entries = numbered-entries k c slots f.0 e ∙ a.entries;
      heads = heads ∙ a.heads;
      before = written-before k f.0 w slots saved e u ∙ a.before;
      under = λ q. entries-kept k q c slots t ∙ a.under q;
      only = λ q s. a.only q (written-only k q f.0 w slots e s);
    })

pub numbered-first : (slots saved : Slots) (next : ℕ) (b : Batch) → AreKept slots saved → b.deletes ≡ [] → b.adds ≡ []
    → IsNumbered slots saved next saved slots b next
numbered-first slots saved next b kept d a = record {
  kept = kept;
  alike = alike-itself slots saved kept;
  left = all-in (λ (p : Key × Slot). slot_at p.0 saved ≡ Some p.1) saved
      (λ p i. in-found p.0 p.1 saved kept.saved_rise i);
  deletes = ap (λ xs. xs ++ leaves slots saved) d;
  adds = ap (λ xs. xs ++ numbered next (comes slots saved)) a;
  stands = subst (λ xs. Stands (table_by (as_saved saved) slots).standing xs saved slots) (sym a)
      (stands-first saved slots);
}

-- the slot that is next is saved and there
pub next-saved : (first saved rest slots : Slots) (next cookie : ℕ) (b : Batch) (k : Key) (old : Slot)
    → IsNumbered first saved next ((k, old) ∷ rest) slots b cookie → IsSome (slot_at k saved)
next-saved first saved rest slots next cookie b k old n = some-found k saved old n.left.0

pub next-there : (first saved rest slots : Slots) (next cookie : ℕ) (b : Batch) (k : Key) (old : Slot)
    → IsNumbered first saved next ((k, old) ∷ rest) slots b cookie → IsSome (slot_at k slots)
next-there first saved rest slots next cookie b k old n =
    in-all (λ (p : Key × Slot). IsSome (slot_at p.0 slots)) (found-in k old saved n.left.0) n.alike.kept.there

pub numbered-more : (first saved rest slots slots' : Slots) (next cookie cookie' : ℕ) (b b' : Batch) (k : Key)
    (old : Slot)
    → b'.deletes ≡ b.deletes ++ option_to_list (gone old (entries_at slots k))
    → b'.adds ≡ b.adds ++ numbered cookie (option_to_list (come old (entries_at slots k)))
    → cookie' ≡ past (come old (entries_at slots k)) cookie
    → slots' ≡ numbered_at k (cookie_for old (entries_at slots k) cookie) slots
    → IsNumbered first saved next ((k, old) ∷ rest) slots b cookie → IsNumbered first saved next rest slots' b' cookie'
numbered-more first saved rest slots slots' next cookie cookie' b b' k old d a m s n =
    let t = next-there first saved rest slots next cookie b k old n in
    let u = next-saved first saved rest slots next cookie b k old n in
    let at = n.alike.under k in
    let alike = alike-numbered first saved slots slots' k t u (cookie_for old (entries_at slots k) cookie, s) n.alike in
    let there = in-all (λ (p : Key × Slot). IsSome (slot_at p.0 first)) (found-in k old saved n.left.0) n.kept.there in
    record {
      kept = n.kept;
      alike = alike;
      left = n.left.1;
      deletes = list-step b.deletes b'.deletes (option_to_list (gone old (entries_at first k))) (leaves first rest)
          (leaves first saved) (d ∙ ap (λ es. b.deletes ++ option_to_list (gone old es)) at) n.deletes;
      adds = numbered-step b.adds b'.adds (come old (entries_at first k)) cookie cookie' (comes first rest)
          (numbered next (comes first saved))
          (a ∙ ap (λ es. b.adds ++ numbered cookie (option_to_list (come old es))) at)
          (m ∙ ap (λ es. past (come old es) cookie) at) n.adds;
      stands = stands-step (table_by (as_saved saved) first).standing b.adds b'.adds rest k old slots slots' cookie
          n.alike.kept.rise alike.kept.rise t
          (λ w e. saved-stood saved first k old w n.left.0 there e) s a n.stands;
    }

pub numbered-last : (first saved slots : Slots) (next cookie : ℕ) (b : Batch)
    → IsNumbered first saved next [] slots b cookie
    → IsBatch (table_by (as_saved saved) first) (table_by as_is slots) next b
numbered-last first saved slots next cookie b n =
    is-batch first saved n.kept slots next b n.alike.heads (sym (append-nil b.deletes) ∙ n.deletes)
    (sym (append-nil b.adds) ∙ n.adds) n.stands
