-- A map, and slots: what is to be changed of it. A slot has the value that its key gets, or none.
use Rattle.std.specs.Prelude.{◌≡◌, false, Option, Some, None, IsSome, List, [], ◌∷◌}
use Rattle.std.specs.BTreeMap.{insert_entry, is_at}
use Rattle.std.specs.Map.{lookup, remove_entry}
use Rattle.std.specs.declared.cmp.Ordering.{Ordering}

-- the value of a key
abbrev pub value_at : {K V : Type 0} → (K → K → Ordering) → K → List (K × V) → Option V
value_at cmp k es = lookup (is_at (cmp k)) es

-- a key has a value
abbrev pub HasKey : {K V : Type 0} → (K → K → Ordering) → K → List (K × V) → Type 0
HasKey cmp k es = IsSome (value_at cmp k es)

-- the entries with another value at a key, or with none
abbrev pub with_slot : {K V : Type 0} → (K → K → Ordering) → K → Option V → List (K × V) → List (K × V)
with_slot cmp k None es = remove_entry (is_at (cmp k)) es
with_slot cmp k (Some v) es = insert_entry cmp es k v

-- the entries with the values of all slots
abbrev pub overlaid : {K V : Type 0} → (K → K → Ordering) → List (K × Option V) → List (K × V) → List (K × V)
overlaid cmp [] es = es
overlaid cmp (x ∷ xs) es = with_slot cmp x.0 x.1 (overlaid cmp xs es)

-- what a slot has, or else what stands
abbrev pub slot_or : {V : Type 0} → Option (Option V) → Option V → Option V
slot_or None value = value
slot_or (Some slot) value = slot

-- more slots, each with the value that stands
pub record AreDrawn {K V : Type 0} (cmp : K → K → Ordering) (base : List (K × V)) (old new : List (K × Option V))
    : Type 0 where
  pub kept : (q : K) (slot : Option V) → value_at cmp q old ≡ Some slot → value_at cmp q new ≡ Some slot
  pub fresh : (q : K) (slot : Option V) → value_at cmp q new ≡ Some slot → value_at cmp q old ≡ None
      → slot ≡ value_at cmp q base

-- keys other than one have what they had
abbrev pub IsSameBut : {K V : Type 0} → (K → K → Ordering) → K → List (K × V) → List (K × V) → Type 0
IsSameBut {K} cmp k old new = (q : K) → is_at (cmp k) q ≡ false → value_at cmp q new ≡ value_at cmp q old

-- the entries without some keys
abbrev pub without : {K V : Type 0} → (K → K → Ordering) → List K → List (K × V) → List (K × V)
without cmp [] es = es
without cmp (k ∷ ks) es = remove_entry (is_at (cmp k)) (without cmp ks es)

-- each key that gets a value has one
abbrev pub HasRoom : {K V : Type 0} → (K → K → Ordering) → List (K × Option V) → List (K × V) → Type 0
HasRoom {K} {V} cmp slots es = (q : K) (v : V) → value_at cmp q slots ≡ Some (Some v) → HasKey cmp q es

-- keys that have no slot have what they had
abbrev pub IsSameElsewhere : {K V : Type 0}
    → (K → K → Ordering) → List (K × Option V) → List (K × V) → List (K × V) → Type 0
IsSameElsewhere {K} cmp slots old new = (q : K) → value_at cmp q slots ≡ None → value_at cmp q new ≡ value_at cmp q old
