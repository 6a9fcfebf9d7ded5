-- What a gate holds, and what a change makes of it.
use Rattle.std.specs.Prelude.{◌≡◌, ◌&&◌, ◌||◌, not, List}
use Rattle.switch_meaning.specs.declared.entry.PhysEntry.{PhysEntry}
use Rattle.exact_gate.specs.Standing.{stands_in}

-- the candidates, and those before the last change, which it can be taken back to
pub record GateOf : Type 0 where
  pub candidates : List PhysEntry
  pub before : List PhysEntry

-- the entries of a list once some went, and then some came
abbrev pub IsChanged : List PhysEntry → List PhysEntry → List PhysEntry → List PhysEntry → Type 0
IsChanged old gone come new = (e : PhysEntry)
    → stands_in new e ≡ ((stands_in old e && not (stands_in gone e)) || stands_in come e)

-- the entries that stand in the first list and not in the second
abbrev pub IsDifference : List PhysEntry → List PhysEntry → List PhysEntry → Type 0
IsDifference xs ys ds = (e : PhysEntry) → stands_in ds e ≡ (stands_in xs e && not (stands_in ys e))
