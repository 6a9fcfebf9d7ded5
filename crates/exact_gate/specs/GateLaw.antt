-- What is installed of what a gate lets pass.
use Rattle.std.specs.Prelude.{List}
use Rattle.switch_meaning.specs.Keys.{installed, passing}
use Rattle.switch_meaning.specs.declared.entry.PhysEntry.{PhysEntry}
use Rattle.exact_gate.specs.Standing.{HaveSame}

-- lists with the same entries have the same ones that pass, and the same ones installed
pub record AreAlike (xs ys : List PhysEntry) : Type 0 where
  pub passing : HaveSame (passing xs) (passing ys)
  pub installed : HaveSame (installed xs) (installed ys)

abbrev pub SameIsInstalled : Type 0
SameIsInstalled = (xs ys : List PhysEntry) → HaveSame xs ys → AreAlike xs ys
