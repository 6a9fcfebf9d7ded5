-- How a batch is made of the slots that changed.
use Rattle.std.specs.Prelude.{◌≡◌, ℕ, Bool, false, Option, Some, None, IsSome, List, [], ◌∷◌, if◌then◌else◌}
use Rattle.std.specs.List.{AllByRecursion}
use Rattle.switch_meaning.specs.Same.{same_entry}
use Rattle.switch_meaning.specs.declared.entry.PhysEntry.{PhysEntry}
use Rattle.install_plan.specs.Tables.{after}
use Rattle.std.specs.BTreeMap.{is_at}
use Rattle.std.specs.Map.{set_value}
use Rattle.install_plan.specs.InsideSlots.{Slots, order, slot_at, top}
use Rattle.install_plan.specs.declared.key.Key.{Key}
use Rattle.install_plan.specs.declared.slot.Slot.{Slot}
use Rattle.install_plan.specs.declared.written.Written.{Written}

-- the first of the entries
abbrev pub head : List PhysEntry → Option PhysEntry
head [] = None
head (e ∷ es) = Some e

-- both are there and the same
abbrev pub is_same_head : Option PhysEntry → Option PhysEntry → Bool
is_same_head None d = false
is_same_head (Some e) None = false
is_same_head (Some e) (Some d) = same_entry e d

-- the entries of a slot, if there is one
abbrev pub entries_of : Option Slot → List PhysEntry
entries_of None = []
entries_of (Some s) = s.entries

-- the entries under a key
abbrev pub entries_at : Slots → Key → List PhysEntry
entries_at slots k = entries_of (slot_at k slots)

-- what stood and doesn't stand any more
abbrev pub gone : Slot → List PhysEntry → Option Written
gone old now = if is_same_head (head old.entries) (head now) then None else top old

-- what stands and didn't stand
abbrev pub come : Slot → List PhysEntry → Option PhysEntry
come old now = if is_same_head (head old.entries) (head now) then None else head now

-- the number after an entry took one, if there is one
abbrev pub past : Option PhysEntry → ℕ → ℕ
past None next = next
past (Some e) next = after next

-- the cookie of what stands: as it was, or the next number
abbrev pub cookie_for : Slot → List PhysEntry → ℕ → ℕ
cookie_for old now next = if is_same_head (head old.entries) (head now) then old.cookie else next

-- each slot is saved
abbrev pub AreAllSaved : Slots → Slots → Type 0
AreAllSaved saved slots = AllByRecursion (λ (p : Key × Slot). IsSome (slot_at p.0 saved)) slots

-- the slot of a key, where there is one, under a cookie
abbrev pub numbered_at : Key → ℕ → Slots → Slots
numbered_at k cookie slots = set_value (is_at (order k)) slots
    (record { entries = entries_at slots k; cookie = cookie })

-- at most the cookie of the key's slot is another one
abbrev pub IsNumberedAt : Key → Slots → Slots → Type 0
IsNumberedAt k old new = (cookie : ℕ) × (new ≡ numbered_at k cookie old)
