-- The words of a line.
use Rattle.std.specs.Prelude.{ℕ, ◌==◌, ◌&&◌, Bool, List, [], ◌∷◌, ◌++◌, length, nat_le, nat_lt, if◌then◌else◌}
use Rattle.std.specs.List.{list_all}

-- printable ASCII, but no blank
abbrev pub is_visible : ℕ → Bool
is_visible c = nat_le 33 c && nat_le c 126

-- a word has at least one byte, all of them visible
abbrev pub is_word : List ℕ → Bool
is_word word = nat_lt 0 (length word) && list_all is_visible word

-- a byte before the first piece
abbrev pub onto_first : ℕ → List (List ℕ) → List (List ℕ)
onto_first c [] = (c ∷ []) ∷ []
onto_first c (piece ∷ pieces) = (c ∷ piece) ∷ pieces

-- the pieces between the blanks of a line
abbrev pub words : List ℕ → List (List ℕ)
words [] = [] ∷ []
words (c ∷ cs) = if c == 32 then [] ∷ words cs else onto_first c (words cs)

-- words with one blank between each two
abbrev pub spaced : List (List ℕ) → List ℕ
spaced [] = []
spaced (last ∷ []) = last
spaced (word ∷ next ∷ others) = word ++ (32 ∷ spaced (next ∷ others))
