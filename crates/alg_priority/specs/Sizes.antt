-- How many levels the rules of a composed expression have.
use Rattle.std.specs.Prelude.{ℕ, ◌+◌, ◌*◌, ◌-◌}

-- the greatest size: of a switch's 65,536 priorities two are kept for the program's own entries
abbrev pub WIDEST : ℕ
WIDEST = 65534

-- the size of `a + b`
abbrev pub sum_size : ℕ → ℕ → ℕ
sum_size a b = a + b - 1

-- the size of `a >> b`
abbrev pub concat_size : ℕ → ℕ → ℕ
concat_size a b = a * b

-- the size of `a |> b`
abbrev pub shift_size : ℕ → ℕ → ℕ
shift_size a b = a + b
