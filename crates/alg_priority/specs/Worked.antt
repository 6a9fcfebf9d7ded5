-- The definitions, computed on examples.
use Rattle.std.specs.Prelude.{◌≡◌, ◌-◌, ◌^◌}
use Rattle.alg_priority.specs.Levels.{capped, sum_level, concat_level, shift_level}
use Rattle.alg_priority.specs.Sizes.{sum_size, concat_size, shift_size}

-- members of three bits have eight levels
pub record EightLevels : Type 0 where
  pub sum : sum_level 4 6 ≡ 10
  pub concat : concat_level 4 4 8 ≡ 36
  pub alone : concat_level 1 0 8 ≡ 8
  pub shift : shift_level 4 8 ≡ 12
  pub sum_size : sum_size 8 8 ≡ 15
  pub concat_size : concat_size 8 8 ≡ 64
  pub shift_size : shift_size 8 8 ≡ 16

-- a number past the end is the end
pub record Capped : Type 0 where
  pub below : capped 7 ≡ 7
  pub past : capped (2 ^ 64) ≡ 2 ^ 64 - 1
