-- What a text holds.
use Rattle.std.specs.Prelude.{ℕ, List, All, ◌<◌, ◌≤◌, take, length, slice_index}

-- each byte is ASCII
abbrev pub IsAsciiText : List ℕ → Type 0
IsAsciiText bytes = All (λ b. b < 128) bytes

-- the place of the first byte that isn't ASCII
pub record IsFirstOther (bytes : List ℕ) (at : ℕ) : Type 0 where
  pub there : at < length bytes
  pub other : 128 ≤ slice_index bytes at
  pub before : IsAsciiText (take at bytes)
