-- Numbers that stand in a list of bytes, the highest byte first, and lists with other numbers in them.
use Rattle.std.specs.Prelude.{ℕ, Bool, ◌+◌, nat_le, List, ◌++◌, length, take, drop, Option, Some, None}
use Rattle.byteorder.specs.Endian.{big_from, big_bytes}

-- the number of n bytes at a place
abbrev pub number_at : ℕ → ℕ → List ℕ → ℕ
number_at place n bytes = big_from place n bytes

-- the first n bytes are there
abbrev pub has : ℕ → List ℕ → Bool
has n bytes = nat_le n (length bytes)

-- the list with a number of n bytes at a place
unfoldable pub put : ℕ → ℕ → ℕ → List ℕ → List ℕ
put place n value bytes = take place bytes ++ (big_bytes n value ++ drop (place + n) bytes)

-- the same where there is such a number
abbrev pub put_if : ℕ → ℕ → Option ℕ → List ℕ → List ℕ
put_if place n None bytes = bytes
put_if place n (Some value) bytes = put place n value bytes
