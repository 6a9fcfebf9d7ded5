-- Runs of items.
use Rattle.std.specs.Prelude.{◌≡◌, ℕ, zero, suc, ◌<◌, Bool, true, false, List, [], ◌∷◌, ◌++◌, Option, Some}
use Rattle.std.specs.Prelude.{None, length}
use Rattle.std.specs.Arc.{arc_value}
use Rattle.std.specs.List.{AllByRecursion, list_any}
use Rattle.std.specs.declared.sync.Arc.{Arc}

-- the items of runs, those of one behind those of the one before
abbrev pub joined : {A Z : Type 0} → List (Arc (List A) Z) → List A
joined [] = []
joined (run ∷ runs) = arc_value run ++ joined runs

-- each run has items
abbrev pub HaveItems : {A Z : Type 0} → List (Arc (List A) Z) → Type 0
HaveItems [] = Unit {0}
HaveItems (run ∷ runs) = (0 < length (arc_value run)) × HaveItems runs

-- the last item passes the test
abbrev pub ends_with : {A : Type 0} → (A → Bool) → List A → Bool
ends_with test [] = false
ends_with test (x ∷ []) = test x
ends_with test (x ∷ y ∷ ys) = ends_with test (y ∷ ys)

-- the place of the first run that has an item that passes the test
abbrev pub IsAtFirst : {A Z : Type 0} → (A → Bool) → List (Arc (List A) Z) → ℕ → Type 0
IsAtFirst test [] place = ⊥
IsAtFirst test (run ∷ runs) zero = list_any test (arc_value run) ≡ true
IsAtFirst test (run ∷ runs) (suc place) = (list_any test (arc_value run) ≡ false) × IsAtFirst test runs place

-- the same, or that none has one
abbrev pub IsFirstRun : {A Z : Type 0} → (A → Bool) → List (Arc (List A) Z) → Option ℕ → Type 0
IsFirstRun test runs None = AllByRecursion (λ run. list_any test (arc_value run) ≡ false) runs
IsFirstRun test runs (Some place) = IsAtFirst test runs place
