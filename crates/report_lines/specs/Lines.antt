-- The lines of a text.
use Rattle.std.specs.Prelude.{ℕ, Bool, ◌==◌, ◌||◌, not, List, [], ◌∷◌, ◌++◌, if◌then◌else◌}
use Rattle.std.specs.List.{list_all}

-- the lines of bytes that end with a line feed (10), behind the beginning of the first
abbrev pub lines_behind : List ℕ → List ℕ → List (List ℕ)
lines_behind line [] = []
lines_behind line (byte ∷ bytes) =
    if byte == 10 then line ∷ lines_behind [] bytes else lines_behind (line ++ byte ∷ []) bytes

-- the lines of a text
abbrev pub lines_in : List ℕ → List (List ℕ)
lines_in text = lines_behind [] text

-- a text as a line
abbrev pub as_line : List ℕ → List ℕ
as_line text = text ++ 10 ∷ []

-- a text without line feeds, and one without spaces (32) too
abbrev pub is_line : List ℕ → Bool
is_line text = list_all (λ c. not (c == 10)) text

abbrev pub is_word : List ℕ → Bool
is_word text = list_all (λ c. not ((c == 10) || (c == 32))) text
