-- The cut of a byte string into frames and a rest.
use Rattle.std.specs.Prelude.{◌≡◌, ◌≤◌, ◌<◌, ℕ, List, ◌++◌, All, length}
use Rattle.std.specs.List.{flat_map}
use Rattle.of10_frames.specs.Wire.{length_field}
use Rattle.of10_frames.specs.declared.framer.FrameFault.{FrameFault}
use Rattle.of10_frames.specs.declared.framer.FrameFault.TheVariants as faults

-- a frame has a whole header, whose length is its own
pub record IsFrame (bytes : List ℕ) : Type 0 where
  pub header : 8 ≤ length bytes
  pub whole : length_field bytes ≡ length bytes

-- the bytes begin with a whole frame
abbrev pub BeginsWithFrame : List ℕ → Type 0
BeginsWithFrame bytes = (frame : List ℕ) × (after : List ℕ) × IsFrame frame × (bytes ≡ frame ++ after)

-- the length field is there, and is less than a header's length
abbrev pub IsShort : List ℕ → Type 0
IsShort bytes = (4 ≤ length bytes) × (length_field bytes < 8)

-- neither a whole frame nor a short length: more bytes have to come
abbrev pub IsUnfinished : List ℕ → Type 0
IsUnfinished bytes = (¬ BeginsWithFrame bytes) × (¬ IsShort bytes)

-- the bytes are these frames, then a rest that doesn't begin with a whole frame
pub record IsCut (bytes : List ℕ) (frames : List (List ℕ)) (rest : List ℕ) : Type 0 where
  pub parts : bytes ≡ flat_map (λ frame. frame) frames ++ rest
  pub whole : All IsFrame frames
  pub ends : ¬ BeginsWithFrame rest

-- the bytes have this cut and no other
pub record IsTheCut (bytes : List ℕ) (frames : List (List ℕ)) (rest : List ℕ) : Type 0 where
  pub cut : IsCut bytes frames rest
  pub only : (others : List (List ℕ)) (left : List ℕ) → IsCut bytes others left → (others ≡ frames) × (left ≡ rest)

-- what each fault says of the bytes that are kept
abbrev pub IsCause : FrameFault → List ℕ → Type 0
IsCause (faults.Short length) kept = IsShort kept × (length ≡ length_field kept)
IsCause faults.Memory kept = BeginsWithFrame kept
