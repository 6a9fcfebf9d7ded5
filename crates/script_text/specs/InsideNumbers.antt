-- What only the proof keeps inside: the steps in which a number is read.
use Rattle.std.specs.Prelude.{ℕ, ◌==◌, ◌&&◌, Bool, true, false, not, List, [], ◌∷◌, Option, Some, None, nat_lt}
use Rattle.std.specs.Prelude.{if◌then◌else◌}
use Rattle.std.specs.Str.{all_ascii_digits}
use Rattle.script_text.specs.Numbers.{value_of}

-- there is a first byte, which is no zero before others
abbrev pub starts_well : List ℕ → Bool
starts_well [] = false
starts_well (c ∷ []) = true
starts_well (c ∷ d ∷ cs) = not (c == 48)

-- what digits stand for, where a u64 holds it
unfoldable pub digits_in : List ℕ → Option ℕ
digits_in text = if all_ascii_digits text && nat_lt (value_of text) 18446744073709551616 then Some (value_of text)
    else None
