-- What a list has more often than one before it.
use Rattle.std.specs.Prelude.{◌≡◌, Bool, Decides, List, [], ◌∷◌, if◌then◌else◌}

module _ {X : Type 0} (same : X → X → Bool) where
  -- the test tells whether two items are equal
  abbrev pub TellsEqual : Type 0
  TellsEqual = (x y : X) → Decides (same x y) (x ≡ y)

  -- a list without the first place of an item
  abbrev pub without : X → List X → List X
  without x [] = []
  without x (y ∷ ys) = if same x y then ys else y ∷ without x ys

  -- what the second list has more often than the first, as often
  abbrev pub came : List X → List X → List X
  came [] after = after
  came (x ∷ before) after = came before (without x after)
