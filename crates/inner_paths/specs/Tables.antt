-- Rows of numbers, one for each switch.
use Rattle.std.specs.Prelude.{◌≡◌, ℕ, ◌<◌, ◌==◌, ◌&&◌, Bool, false, Option, None, List, [], length, slice_index_or}
use Rattle.std.specs.List.{list_any}
use Rattle.virtual_topology.specs.Wires.{Joint}

-- some way leads from a switch to one of a layer
abbrev pub leads_into : List Joint → List Bool → ℕ → Bool
leads_into ways layer from = list_any (λ (w : Joint). (w.0.0 == from) && slice_index_or layer w.1.0 false) ways

-- a number, or none, for each switch
pub record IsRow (count : ℕ) (f : ℕ → Option ℕ) (row : List (Option ℕ)) : Type 0 where
  pub whole : length row ≡ count
  pub each : (s : ℕ) → s < count → slice_index_or row s None ≡ f s

-- such rows for the first so many switches
pub record IsTable (count rows : ℕ) (f : ℕ → ℕ → Option ℕ) (table : List (List (Option ℕ))) : Type 0 where
  pub whole : length table ≡ rows
  pub each : (to : ℕ) → to < rows → IsRow count (f to) (slice_index_or table to [])

-- what a table has for a pair of switches
abbrev pub entry_of : {A : Type 0} → List (List (Option A)) → ℕ → ℕ → Option A
entry_of table to from = slice_index_or (slice_index_or table to []) from None
