-- The definitions, computed on examples.
use Rattle.std.specs.Prelude.{◌≡◌, ℕ, List, [], ◌∷◌, Some, None}
use Rattle.level_map.specs.Levels.{Levels, level_of}
use Rattle.level_map.specs.Placing.{placing, dropping}
use Rattle.level_map.specs.declared.placed.Placed.TheVariants.{Kept, Renumbered}
use Rattle.level_map.specs.declared.ranked.Ranked.{Ranked}

abbrev pub at : ℕ → ℕ → Ranked
at rank level = record { rank = rank; level = level }

abbrev pub eight : List Ranked → Levels
eight ranked = record { size = 8; ranked = ranked }

-- a table of three bits: new ranks get the middle of their gap, until there is none
pub record ThreeBits : Type 0 where
  pub first : placing (eight []) 10 ≡ (Kept 4, eight (at 10 4 ∷ []))
  pub second : placing (eight (at 10 4 ∷ [])) 20 ≡ (Kept 6, eight (at 10 4 ∷ at 20 6 ∷ []))
  pub third : placing (eight (at 10 4 ∷ at 20 6 ∷ [])) 30 ≡ (Kept 7, eight (at 10 4 ∷ at 20 6 ∷ at 30 7 ∷ []))
  pub spread : placing (eight (at 10 4 ∷ at 20 6 ∷ at 30 7 ∷ [])) 40
      ≡ (Renumbered 6, eight (at 10 2 ∷ at 20 3 ∷ at 30 5 ∷ at 40 6 ∷ []))

-- a rank that is dropped has no level, and the others keep theirs
pub record Dropped : Type 0 where
  pub pairs : dropping (eight (at 10 4 ∷ at 20 6 ∷ at 30 7 ∷ [])) 20 ≡ eight (at 10 4 ∷ at 30 7 ∷ [])
  pub gone : level_of (eight (at 10 4 ∷ at 30 7 ∷ [])) 20 ≡ None
  pub kept : level_of (eight (at 10 4 ∷ at 30 7 ∷ [])) 30 ≡ Some 7
