-- What taking frames out one by one adds.
use Rattle.std.specs.Prelude.{◌≡◌, ℕ, List, ◌++◌}
use Rattle.of10_frames.specs.Frames.{IsCut}

-- the frames of the bytes, up to the rest, come after the old ones
abbrev pub AddsFrames : List ℕ → List ℕ → List (List ℕ) → List (List ℕ) → Type 0
AddsFrames bytes rest old new = (frames : List (List ℕ)) × (new ≡ old ++ frames) × IsCut bytes frames rest
