-- The levels of composed rules, as numbers without an upper bound, and what the program's u64 keeps of them.
use Rattle.std.specs.Prelude.{ℕ, ◌+◌, ◌*◌, ◌-◌, ◌^◌, min}

-- what saturating arithmetic keeps of a number
abbrev pub capped : ℕ → ℕ
capped n = min n (2 ^ 64 - 1)

-- the level of a rule of `a + b`
abbrev pub sum_level : ℕ → ℕ → ℕ
sum_level a b = a + b

-- the level of a rule of `a >> b`, where b has `size_b` levels: the digits a and b in base `size_b`
abbrev pub concat_level : ℕ → ℕ → ℕ → ℕ
concat_level a b size_b = a * size_b + b

-- the level of a rule of the left side of `a |> b`, where b has `size_b` levels
abbrev pub shift_level : ℕ → ℕ → ℕ
shift_level a size_b = size_b + a
