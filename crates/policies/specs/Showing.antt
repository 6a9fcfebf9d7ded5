-- How a fault shows a key.
use Rattle.std.specs.Prelude.{ℕ, List, map, if◌then◌else◌}
use Rattle.std.specs.Char.{is_ascii_graphic}

-- a byte of a key as a fault shows it: `?` (63) in place of what isn't printable ASCII, or is a blank
abbrev pub shown_byte : ℕ → ℕ
shown_byte b = if is_ascii_graphic b then b else 63

abbrev pub shown : List ℕ → List ℕ
shown = map shown_byte
