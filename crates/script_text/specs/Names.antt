-- Names, and the sessions that have them.
use Rattle.std.specs.Prelude.{ℕ, ◌+◌, ◌==◌, ◌&&◌, ◌||◌, Bool, true, false, List, [], ◌∷◌, Option, Some, None, length}
use Rattle.std.specs.Prelude.{nat_le, position, take, drop}
use Rattle.std.specs.List.{list_all}

-- a letter a to z
abbrev pub is_letter : ℕ → Bool
is_letter c = nat_le 97 c && nat_le c 122

-- a letter, a digit or `_`
abbrev pub is_name_byte : ℕ → Bool
is_name_byte c = is_letter c || ((nat_le 48 c && nat_le c 57) || (c == 95))

-- a letter, and up to 15 letters, digits and `_`
abbrev pub is_name : List ℕ → Bool
is_name [] = false
is_name (c ∷ cs) = is_letter c && (nat_le (length (c ∷ cs)) 16 && list_all is_name_byte (c ∷ cs))

-- two names, about the place of an `@`
abbrev pub are_names_at : List ℕ → Option ℕ → Bool
are_names_at text None = false
are_names_at text (Some at) = is_name (take at text) && is_name (drop (at + 1) text)

-- a member's session: a controller's name, `@`, a virtual switch's name
abbrev pub is_member : List ℕ → Bool
is_member text = are_names_at text (position (λ c. c == 64) text)

-- the name of a session: a switch's name, or a member's
abbrev pub is_session : List ℕ → Bool
is_session text = is_name text || is_member text
