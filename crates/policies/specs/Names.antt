-- Which texts are addresses, and which are names.
use Rattle.std.specs.Prelude.{ℕ, ◌==◌, ◌&&◌, ◌||◌, Bool, false, List, [], ◌∷◌, nat_le, nat_lt, length}
use Rattle.std.specs.Char.{is_ascii_graphic, is_ascii_lowercase, is_ascii_digit}
use Rattle.std.specs.List.{list_all}

-- ASCII from the blank to the tilde
abbrev pub is_printable : ℕ → Bool
is_printable b = (b == 32) || is_ascii_graphic b

-- 1 to 64 bytes of printable ASCII
abbrev pub is_address : List ℕ → Bool
is_address s = (nat_lt 0 (length s) && nat_le (length s) 64) && list_all is_printable s

-- a to z, 0 to 9, `_` (95)
abbrev pub is_name_byte : ℕ → Bool
is_name_byte b = (is_ascii_lowercase b || is_ascii_digit b) || (b == 95)

-- a letter a to z and up to 15 of a to z, 0 to 9 and `_`
abbrev pub is_name : List ℕ → Bool
is_name [] = false
is_name (b ∷ bs) = (is_ascii_lowercase b && nat_lt (length bs) 16) && list_all is_name_byte bs
