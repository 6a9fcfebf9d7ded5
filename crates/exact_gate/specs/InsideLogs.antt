-- What a gate keeps so that a change can be taken back.
use Rattle.std.specs.Prelude.{◌≡◌, false, List, [], ◌++◌, if◌then◌else◌}
use Rattle.switch_meaning.specs.declared.entry.PhysEntry.{PhysEntry}
use Rattle.exact_gate.specs.Gates.{GateOf}
use Rattle.exact_gate.specs.Standing.{without}
use Rattle.exact_gate.specs.declared.log.Log.{Log}
use Rattle.exact_gate.specs.declared.state.State.{State}

-- the entries before those of a log went and came
abbrev pub turned_back : List PhysEntry → Log → List PhysEntry
turned_back entries log = without entries log.come ++ log.gone

-- the entries once what is owed is taken back
abbrev pub settled : State → List PhysEntry
settled s = turned_back s.pool s.owed

-- and those before the last change
abbrev pub earlier : State → List PhysEntry
earlier s = turned_back (settled s) s.last

-- the candidates
abbrev pub present : State → List PhysEntry
present s = if s.undone then earlier s else settled s

-- the candidates, and those before the last change
abbrev pub gate_of : State → GateOf
gate_of s = record { candidates = present s; before = earlier s }

-- nothing is owed
pub record IsSettled (s : State) : Type 0 where
  pub gone : s.owed.gone ≡ []
  pub come : s.owed.come ≡ []
  pub done : s.undone ≡ false
