-- Lists in which the items that pass a test stand behind the others.
use Rattle.std.specs.Prelude.{◌≡◌, Bool, true, List, [], ◌∷◌, if◌then◌else◌}
use Rattle.std.specs.List.{AllByRecursion}

-- behind an item that passes the test all do
abbrev pub StandBehind : {A : Type 0} → (A → Bool) → List A → Type 0
StandBehind test [] = Unit {0}
StandBehind test (x ∷ xs) = (test x ≡ true → AllByRecursion (λ y. test y ≡ true) xs) × StandBehind test xs

-- with an item in front of the first that passes the test, and at the end where none does
abbrev pub put_before : {A : Type 0} → (A → Bool) → A → List A → List A
put_before test item [] = item ∷ []
put_before test item (x ∷ xs) = if test x then item ∷ x ∷ xs else x ∷ put_before test item xs
