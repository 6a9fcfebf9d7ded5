-- What the environment sets.
use Rattle.std.specs.Prelude.{◌≡◌, ℕ, ◌≤◌, List}
use Rattle.std.specs.Str.Parse.{IsNumeral, digits_value, without_leading_plus}

-- decimal digits, before which a plus may stand, say so many seconds: the least number or more, and an hour at most
abbrev pub IsSeconds : (text : List ℕ) → (least seconds : ℕ) → Type 0
IsSeconds text least seconds = IsNumeral 10 (without_leading_plus text)
    × (digits_value 10 (without_leading_plus text) ≡ seconds)
    × (least ≤ seconds)
    × (seconds ≤ 3600)
