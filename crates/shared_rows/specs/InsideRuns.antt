-- Runs of rows.
use Rattle.std.specs.Prelude.{◌<◌, Bool, false, List, [], ◌∷◌, ◌++◌, Option, Some, None, length}
use Rattle.std.specs.Arc.{arc_value}
use Rattle.std.specs.declared.sync.Arc.{Arc}
use Rattle.install_plan.specs.declared.written.Written.{Written}
use Rattle.switch_meaning.specs.declared.entry.PhysEntry.{PhysEntry}
use Rattle.shared_rows.specs.Rows.{has_key, is_past}

-- the rows of runs, those of one behind those of the other
abbrev pub joined : {Z : Type 0} → List (Arc (List Written) Z) → List Written
joined [] = []
joined (run ∷ runs) = arc_value run ++ joined runs

-- each run has rows
abbrev pub HaveRows : {Z : Type 0} → List (Arc (List Written) Z) → Type 0
HaveRows [] = Unit {0}
HaveRows (run ∷ runs) = (0 < length (arc_value run)) × HaveRows runs

-- rows begin with one that comes behind a key
abbrev pub first_past : PhysEntry → List Written → Bool
first_past e [] = false
first_past e (w ∷ ws) = is_past e w

-- so does a run
abbrev pub begins_past : {Z : Type 0} → PhysEntry → Arc (List Written) Z → Bool
begins_past e run = first_past e (arc_value run)

-- there is a row, and it has a key
abbrev pub at_key : PhysEntry → Option Written → Bool
at_key e None = false
at_key e (Some w) = has_key e w
