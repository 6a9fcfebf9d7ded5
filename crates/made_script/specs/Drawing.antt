-- The numbers that a script is made of: a linear congruential generator with the constants of the C standard's `rand`.
use Rattle.std.specs.Prelude.{ℕ, ◌+◌, ◌*◌, ◌/◌, ◌%◌}

-- the number behind another, both below 2^31
abbrev pub after : ℕ → ℕ
after x = (x * 1103515245 + 12345) % 2147483648

-- the number before the first one
abbrev pub start : ℕ → ℕ
start seed = seed % 2147483648

-- what is drawn of a number: its 15 upper bits
abbrev pub drawn : ℕ → ℕ
drawn x = x / 65536
