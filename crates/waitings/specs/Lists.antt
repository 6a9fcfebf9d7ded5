-- Lists that are changed at one place.
use Rattle.std.specs.Prelude.{Bool, List, [], ◌∷◌, if◌then◌else◌}

-- the list with what f makes of the first item that passes a test, if one does
abbrev pub changed_first : {A : Type 0} → (A → Bool) → (A → A) → List A → List A
changed_first test f [] = []
changed_first test f (x ∷ xs) = if test x then f x ∷ xs else x ∷ changed_first test f xs
