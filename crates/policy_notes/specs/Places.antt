-- Where in a text something stands.
use Rattle.std.specs.Prelude.{◌≡◌, ◌≤◌, ◌+◌, ◌⊎◌, ◌==◌, ℕ, List, length, take}
use Rattle.std.specs.List.{count_by}
use Rattle.policy_notes.specs.declared.places.Place.{Place}

-- how many line feeds (10) there are
abbrev pub feeds : List ℕ → ℕ
feeds text = count_by (λ b. b == 10) text

-- the number, from 1, of the line on which a byte stands
abbrev pub line_of : List ℕ → ℕ → ℕ
line_of text at = 1 + feeds (take at text)

-- the number of a line of a text, or 0
abbrev pub IsLineOf : List ℕ → ℕ → Type 0
IsLineOf text line = (line ≡ 0) ⊎ ((at : ℕ) × (at ≤ length text) × (line ≡ line_of text at))

-- a place of a text is a line of it, or it isn't known
abbrev pub IsPlaceIn : List ℕ → Place → Type 0
IsPlaceIn text place = IsLineOf text place.line
