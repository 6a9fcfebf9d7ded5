-- Decimal numbers without leading zeros: `decimal` says their digits, both ways.
use Rattle.std.specs.Prelude.{ℕ, ◌+◌, ◌*◌, ◌-◌, ◌&&◌, List, [], ◌∷◌, Option, Some, None, decimal, nat_le, if◌then◌else◌}
use Rattle.std.specs.Str.{bytes_eq}

-- what digits stand for behind those of a number
abbrev pub value_after : ℕ → List ℕ → ℕ
value_after n [] = n
value_after n (c ∷ cs) = value_after (n * 10 + (c - 48)) cs

abbrev pub value_of : List ℕ → ℕ
value_of text = value_after 0 text

-- the number whose decimal digits the text is, where it is at most the limit
unfoldable pub number_in : ℕ → List ℕ → Option ℕ
number_in most text = if bytes_eq (decimal (value_of text)) text && nat_le (value_of text) most
    then Some (value_of text) else None
