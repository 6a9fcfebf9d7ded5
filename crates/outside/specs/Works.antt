-- What works that ran beside one another have become.
use Rattle.std.specs.Prelude.{ℕ, List, length, ◌≡◌, ◌<◌}
use Rattle.std.specs.List.{slice_index_or}

module _ {W : Type 0} (changes : W → W → Type 0) (before after : List W) where
  -- each is in its place, and changed once
  abbrev pub AllChanged : Type 0
  AllChanged = (length after ≡ length before) × ((i : ℕ) (d : W) → i < length before
      → changes (slice_index_or before i d) (slice_index_or after i d))

module _ {W : Type 0} (ready : W → Type 0) (works : List W) where
  -- each may be done
  abbrev pub AllReady : Type 0
  AllReady = (i : ℕ) (d : W) → i < length works → ready (slice_index_or works i d)
