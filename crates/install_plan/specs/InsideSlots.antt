-- How the entries of a switch stand under their keys.
use Rattle.std.specs.Prelude.{◌≡◌, ℕ, Bool, true, false, Option, Some, None, IsSome, List, [], ◌∷◌, flat_map, unwrap_or}
use Rattle.std.specs.Prelude.{option_to_list}
use Rattle.std.specs.BTreeMap.{is_at}
use Rattle.std.specs.Map.{keys_of, lookup, remove_entry, set_value}
use Rattle.std.specs.List.{AllByRecursion, Contains, list_any}
use Rattle.std.specs.List.Sorted.{IsStrictlySortedBy}
use Rattle.std.specs.Ordering.{is_eq, nat_cmp, ordering_then}
use Rattle.std.specs.Cmp.Lexicographic.{slice_cmp}
use Rattle.std.specs.declared.cmp.Ordering.{Ordering}
use Rattle.cv_io.specs.Leaves.{ancestry_cmp}
use Rattle.of10_match.specs.Ranges.{IsMatch}
use Rattle.of10_match.specs.Wildcards.{match_bytes}
use Rattle.switch_meaning.specs.declared.entry.PhysEntry.{PhysEntry}
use Rattle.install_plan.specs.Tables.{Adds, TableOf}
use Rattle.install_plan.specs.declared.key.Key.{Key}
use Rattle.install_plan.specs.declared.slot.Slot.{Slot}
use Rattle.install_plan.specs.declared.written.Written.{Written}

-- the key of an entry
abbrev pub key_of : PhysEntry → Key
key_of e = record { priority = e.priority; bytes = match_bytes e.m }

-- by rising priority, and then by the bytes of the match
abbrev pub order : Key → Key → Ordering
order k q = ordering_then (nat_cmp k.priority q.priority) (slice_cmp nat_cmp k.bytes q.bytes)

-- by rising ancestry
abbrev pub by_ancestry : PhysEntry → PhysEntry → Ordering
by_ancestry d e = ancestry_cmp d.ancestry e.ancestry

-- slots under their keys
abbrev pub Slots : Type 0
Slots = List (Key × Slot)

-- the slot of a key
abbrev pub slot_at : Key → Slots → Option Slot
slot_at k slots = lookup (is_at (order k)) slots

-- the first of the entries, under the cookie
abbrev pub first : List PhysEntry → ℕ → Option Written
first [] cookie = None
first (e ∷ es) cookie = Some (record { entry = e; cookie = cookie })

-- what stands of a slot
abbrev pub top : Slot → Option Written
top s = first s.entries s.cookie

-- the table that slots make
abbrev pub table_by : (Key × Slot → Slot) → Slots → TableOf
table_by f slots = record {
  entries = flat_map (λ p. (f p).entries) slots;
  standing = flat_map (λ p. option_to_list (top (f p))) slots;
}

-- a slot as it is
abbrev pub as_is : Key × Slot → Slot
as_is p = p.1

-- a slot as it was saved, else as it is
abbrev pub as_saved : Slots → Key × Slot → Slot
as_saved saved p = unwrap_or (slot_at p.0 saved) p.1

-- the entries have the key, in range, and rise by ancestry
pub record Fits (p : Key × Slot) : Type 0 where
  pub keys : AllByRecursion (λ (e : PhysEntry). (key_of e ≡ p.0) × IsMatch e.m) p.1.entries
  pub rising : IsStrictlySortedBy by_ancestry p.1.entries

-- keys rise; slots fit their keys, also as they were saved; and each that is saved is there
pub record AreKept (slots saved : Slots) : Type 0 where
  pub rise : IsStrictlySortedBy order (keys_of slots)
  pub saved_rise : IsStrictlySortedBy order (keys_of saved)
  pub fit : AllByRecursion Fits slots
  pub saved_fit : AllByRecursion Fits saved
  pub there : AllByRecursion (λ (p : Key × Slot). IsSome (slot_at p.0 slots)) saved

-- the first list where there are no entries, else the second
abbrev pub if_empty : List PhysEntry → Slots → Slots → Slots
if_empty [] none some = none
if_empty (e ∷ es) none some = some

-- the slots without that of a key
abbrev pub without : Key → Slots → Slots
without k slots = remove_entry (is_at (order k)) slots

-- the slots with one as it was, or without it where it was empty
abbrev pub restored : Key → Slot → Slots → Slots
restored k old slots = if_empty old.entries (without k slots) (set_value (is_at (order k)) slots old)

-- the slots without a slot, where it is there and empty
abbrev pub without_if_empty : Option Slot → Key → Slots → Slots
without_if_empty None k slots = slots
without_if_empty (Some s) k slots = if_empty s.entries (without k slots) slots

-- the slots without that of a key, where it is empty
abbrev pub without_empty : Key → Slots → Slots
without_empty k slots = without_if_empty (slot_at k slots) k slots

-- a slot was written from which the entry was taken, if it was there
pub record IsTakenFrom (e : PhysEntry) (old new : Slots) (s : Slot) : Type 0 where
  pub slot : Slot
  pub written : new ≡ set_value (is_at (order (key_of e))) old slot
  pub fits : Fits (key_of e, slot)
  pub taken : Contains s.entries e → Adds e slot.entries s.entries

-- a slot was written into which the entry was put, if there was memory and no other one has its ancestry
pub record IsPutInto (put : Bool) (e : PhysEntry) (old new : Slots) (s : Slot) : Type 0 where
  pub slot : Slot
  pub written : new ≡ set_value (is_at (order (key_of e))) old slot
  pub fits : Fits (key_of e, slot)
  pub added : put ≡ true → list_any (λ (d : PhysEntry). is_eq (by_ancestry e d)) s.entries ≡ false
      → Adds e s.entries slot.entries
