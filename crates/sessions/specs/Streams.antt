-- What is read of a source and written to a sink, and what is kept of what was read.
use Rattle.std.specs.Prelude.{◌≡◌, ℕ, Bool, true, false, List, [], ◌++◌, Option, Some, None, take, ⊤}
use Rattle.std.specs.List.{flat_map}
use Rattle.outside.specs.Outside.{Rose}
use Rattle.of10_frames.specs.Frames.{IsShort, IsUnfinished}
use Rattle.of10_frames.specs.Wire.{length_field}

-- one after the other
abbrev pub joined : List (List ℕ) → List ℕ
joined parts = flat_map (λ part. part) parts

-- these bytes were read: the next of those that were left, where they are told
abbrev pub Reads : Option (List ℕ) → Option (List ℕ) → List ℕ → Type 0
Reads None after bytes = after ≡ None
Reads (Some left) after bytes = (rest : List ℕ) × (left ≡ bytes ++ rest) × (after ≡ Some rest)

-- nothing is left, where it is told what is left
abbrev pub IsAtEnd : Option (List ℕ) → Type 0
IsAtEnd None = ⊤
IsAtEnd (Some left) = left ≡ []

-- all of the bytes were appended to what is held, where that is told
abbrev pub Appends : Option (List ℕ) → Option (List ℕ) → List ℕ → Type 0
Appends None after bytes = after ≡ None
Appends (Some held) after bytes = after ≡ Some (held ++ bytes)

-- some of the first bytes were
abbrev pub AppendsSome : Option (List ℕ) → Option (List ℕ) → List ℕ → Type 0
AppendsSome old new bytes = (n : ℕ) × Appends old new (take n bytes)

-- the source has ended, and what is kept is no whole frame
pub record SourceEnded (left : Option (List ℕ)) (kept : List ℕ) : Type 0 where
  pub unfinished : IsUnfinished kept
  pub end : IsAtEnd left

-- the kept bytes begin with a header that gives this length, which is below 8
pub record IsCutShort (kept : List ℕ) (len : ℕ) : Type 0 where
  pub short : IsShort kept
  pub shown : len ≡ length_field kept

-- the source failed, which is none that never does, and what is kept is no whole frame
pub record SourceFailed (kept : List ℕ) (before after : ℕ) (is_reliable : Bool) : Type 0 where
  pub unfinished : IsUnfinished kept
  pub rose : Rose before after
  pub unreliable : is_reliable ≡ false

-- the sink failed, and not for want of memory; so it is none that never fails but for that
pub record SinkBroke (before after wants wanted : ℕ) (is_reliable : Bool) : Type 0 where
  pub rose : Rose before after
  pub sated : Rose wants wanted → ⊥
  pub unreliable : is_reliable ≡ false

-- the sink failed; one that never does but for want of memory found none
pub record SinkFailed (before after wants wanted : ℕ) (is_reliable : Bool) : Type 0 where
  pub rose : Rose before after
  pub want : is_reliable ≡ true → Rose wants wanted
