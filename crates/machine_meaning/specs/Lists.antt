-- Lists that are changed at one place.
use Rattle.std.specs.Prelude.{ℕ, zero, suc, List, [], ◌∷◌, map}
use Rattle.std.specs.List.{enumerate_from}

-- the list with what f makes of the item at a place, if there is one
abbrev pub changed_at : {A : Type 0} → ℕ → (A → A) → List A → List A
changed_at n f [] = []
changed_at zero f (x ∷ xs) = f x ∷ xs
changed_at (suc n) f (x ∷ xs) = x ∷ changed_at n f xs

-- the numbers of the items of a list, from 0
abbrev pub places : {A : Type 0} → List A → List ℕ
places xs = map (λ x. x.0) (enumerate_from 0 xs)
