-- Lines that are told sparingly.
use Rattle.std.specs.Prelude.{ℕ, ◌+◌, ◌-◌, ◌^◌, min}

-- one more, in 64 bits
abbrev pub one_more : ℕ → ℕ
one_more times = min (times + 1) (2 ^ 64 - 1)
