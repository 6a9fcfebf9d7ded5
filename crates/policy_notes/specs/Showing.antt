-- What stands in a file or a script, as the operator is shown it.
use Rattle.std.specs.Prelude.{ℕ, ◌==◌, ◌||◌, ◌++◌, List, codes, if◌then◌else◌, length, map, nat_lt, take}
use Rattle.std.specs.Char.{is_ascii_graphic}

-- a byte, or `?` (63) for what is neither a blank (32) nor graphic ASCII
abbrev pub printable : ℕ → ℕ
printable b = if (b == 32) || is_ascii_graphic b then b else 63

-- at most so many bytes, and `..` where there are more
abbrev pub beginning_of : ℕ → List ℕ → List ℕ
beginning_of most bytes =
    if nat_lt most (length bytes) then map printable (take most bytes) ++ codes ".." else map printable bytes
