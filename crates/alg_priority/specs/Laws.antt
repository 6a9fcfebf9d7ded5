-- What the levels of composed rules do for the rules' order, as laws over all numbers.
use Rattle.std.specs.Prelude.{◌≡◌, ℕ, ◌<◌, ◌↔◌, ◌⊎◌}
use Rattle.alg_priority.specs.Levels.{capped, sum_level, concat_level, shift_level}
use Rattle.alg_priority.specs.Sizes.{sum_size, concat_size, shift_size}

-- a sum of levels below their sizes is below the sum's size
abbrev pub SumIsBelow : Type 0
SumIsBelow = (a b size_a size_b : ℕ) → a < size_a → b < size_b → sum_level a b < sum_size size_a size_b

-- a sum rises strictly in each of its parts
abbrev pub SumRises : Type 0
SumRises = (a b more : ℕ) → (a < more → sum_level a b < sum_level more b)
    × (b < more → sum_level a b < sum_level a more)

-- a concatenation of levels below their sizes is below the concatenation's size
abbrev pub ConcatIsBelow : Type 0
ConcatIsBelow = (a b size_a size_b : ℕ) → a < size_a → b < size_b → concat_level a b size_b < concat_size size_a size_b

-- concatenations are in the order of their left parts, and at equal left parts in that of their right parts
abbrev pub ConcatCompares : Type 0
ConcatCompares =
    (a b c d size : ℕ) → b < size → d < size
    → (concat_level a b size < concat_level c d size) ↔ ((a < c) ⊎ ((a ≡ c) × (b < d)))

-- a left level below its size is shifted to below the size of the whole, and so is each right level
abbrev pub ShiftIsBelow : Type 0
ShiftIsBelow =
    (a b size_a size_b : ℕ) → a < size_a → b < size_b
    → (shift_level a size_b < shift_size size_a size_b) × (b < shift_size size_a size_b)

-- a shifted left level is above every right level
abbrev pub ShiftIsAbove : Type 0
ShiftIsAbove = (a b size_b : ℕ) → b < size_b → b < shift_level a size_b

-- shifting keeps the order of the left levels
abbrev pub ShiftRises : Type 0
ShiftRises = (a more size_b : ℕ) → a < more → shift_level a size_b < shift_level more size_b

-- sums of sizes of at least 1 do not depend on their grouping
abbrev pub SumSizeGroups : Type 0
SumSizeGroups =
    (a b c : ℕ) → 0 < a → 0 < b → 0 < c → sum_size (sum_size a b) c ≡ sum_size a (sum_size b c)

-- nor do concatenations
abbrev pub ConcatSizeGroups : Type 0
ConcatSizeGroups = (a b c : ℕ) → concat_size (concat_size a b) c ≡ concat_size a (concat_size b c)

-- nor do shifts
abbrev pub ShiftSizeGroups : Type 0
ShiftSizeGroups = (a b c : ℕ) → shift_size (shift_size a b) c ≡ shift_size a (shift_size b c)

-- a composed size of sizes of at least 1 is at least 1
abbrev pub SizesArePositive : Type 0
SizesArePositive =
    (a b : ℕ) → 0 < a → 0 < b → (0 < sum_size a b) × (0 < concat_size a b) × (0 < shift_size a b)

-- Saturating each operand first changes no saturated size, where sizes are at least 1: what is computed
-- step by step is the size, saturated once.
abbrev pub SaturatesOnce : Type 0
SaturatesOnce =
    (a b : ℕ) → 0 < a → 0 < b
    → (capped (sum_size (capped a) (capped b)) ≡ capped (sum_size a b))
    × (capped (concat_size (capped a) (capped b)) ≡ capped (concat_size a b))
    × (capped (shift_size (capped a) (capped b)) ≡ capped (shift_size a b))
