-- Joints whose ends are at virtual switches that are there.
use Rattle.std.specs.Prelude.{◌≡◌, ℕ, ◌<◌, ◌==◌, All, List, Option, Some, None, if◌then◌else◌, length, slice_index}
use Rattle.virtual_topology.specs.Faults.{are_joined}
use Rattle.virtual_topology.specs.Wires.{Joint}

-- both ends are at switches of a number below this
abbrev pub LiesWithin : ℕ → Joint → Type 0
LiesWithin count j = (j.0.0 < count) × (j.1.0 < count)

abbrev pub AreWithin : ℕ → List Joint → Type 0
AreWithin count js = All (LiesWithin count) js

-- the number of a group, after one group took the number of another
abbrev pub merged : ℕ → ℕ → ℕ → ℕ
merged from to g = if g == from then to else g

-- the virtual switches of outside ports have numbers below this
abbrev pub HaveSwitches : ℕ → List Joint → Type 0
HaveSwitches count js = All (λ (j : Joint). j.0.0 < count) js

-- two have one group exactly where links join them
abbrev pub AreGroups : List Joint → List ℕ → Type 0
AreGroups links groups = (a b : ℕ) → a < length groups → b < length groups
    → (slice_index groups a == slice_index groups b) ≡ are_joined links a b

-- an outside port, if its virtual switch is of a group
abbrev pub kept_of : List ℕ → ℕ → Joint → Option Joint
kept_of groups group j = if group == slice_index groups j.0.0 then Some j else None
