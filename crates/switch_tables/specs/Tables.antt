-- What is to stand on a switch: the gate before it, and its table.
use Rattle.std.specs.Prelude.{◌≡◌, ℕ, List, IsPermutation, map}
use Rattle.agreement.specs.FreeOrder.{HaveMatches}
use Rattle.exact_gate.specs.Gates.{GateOf}
use Rattle.exact_gate.specs.Standing.{HaveSame}
use Rattle.install_plan.specs.Tables.{InstalledOf, IsBatch, TableOf, entry_of}
use Rattle.install_plan.specs.declared.written.Batch.{Batch}
use Rattle.list_change.specs.Changes.{Changed}
use Rattle.switch_meaning.specs.BatchLaw.{HasNoTwins}
use Rattle.switch_meaning.specs.Keys.{installed, passing}
use Rattle.switch_meaning.specs.declared.entry.PhysEntry.{PhysEntry}

-- the gate, and the table of the entries that pass
pub record SwitchTableOf : Type 0 where
  pub gate : GateOf
  pub installed : InstalledOf

-- the candidates are these entries, and the table has those of them that pass
pub record Has (entries candidates : List PhysEntry) (t : TableOf) : Type 0 where
  pub candidates_are : HaveSame entries candidates
  pub passing_are : IsPermutation (passing entries) t.entries
  pub in_range : HaveMatches t.entries

-- so it is now
abbrev pub HasNow : List PhysEntry → SwitchTableOf → Type 0
HasNow entries x = Has entries x.gate.candidates x.installed.now

-- so it was before the last change, which can be taken back
abbrev pub HasHad : List PhysEntry → SwitchTableOf → Type 0
HasHad entries x = Has entries x.gate.before x.installed.before

-- what stands is what is installed of these entries
abbrev pub Stands : List PhysEntry → TableOf → Type 0
Stands entries t = IsPermutation (installed entries) (map entry_of t.standing)

-- these entries went and these came, with the batch that was written of it
pub record IsTurned (gone come : List PhysEntry) (next : ℕ) (before now : SwitchTableOf) (batch : Batch) : Type 0 where
  pub now_has : (old new : List PhysEntry) → HasNow old before → HasNoTwins old → HasNoTwins new
      → Changed old new gone come → HasNow new now
  pub had : (old : List PhysEntry) → HasNow old before → HasHad old now
  pub is_batch : IsBatch before.installed.now now.installed.now next batch
  pub stood : now.installed.before ≡ before.installed.now

-- it is as it was
pub record IsKept (before now : SwitchTableOf) : Type 0 where
  pub has : (old : List PhysEntry) → HasNow old before → HasNow old now
  pub stands : now.installed.now ≡ before.installed.now

-- the last change was taken back
pub record IsUndone (before now : SwitchTableOf) : Type 0 where
  pub has : (old : List PhysEntry) → HasHad old before → HasNow old now
  pub stands : now.installed.now ≡ before.installed.before

-- it can be made what it was
pub record CanGoBack (before now : SwitchTableOf) : Type 0 where
  pub had : (old : List PhysEntry) → HasNow old before → HasHad old now
  pub stood : now.installed.before ≡ before.installed.now
