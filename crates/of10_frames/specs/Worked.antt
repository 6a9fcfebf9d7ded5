-- The definitions, computed on examples.
use Rattle.std.specs.Prelude.{◌≡◌, ℕ, List, [], ◌∷◌}
use Rattle.of10_frames.specs.Wire.{header_bytes, length_field, xid_field, error_bytes}

-- a HELLO
abbrev pub hello : List ℕ
hello = 1 ∷ 0 ∷ 0 ∷ 8 ∷ 0 ∷ 0 ∷ 0 ∷ 7 ∷ []

-- its header, and what stands in it
pub record HelloHeader : Type 0 where
  pub bytes : header_bytes 0 8 7 ≡ hello
  pub len : length_field hello ≡ 8
  pub xid : xid_field hello ≡ 7

-- the ERROR of a bad request with a bad type, for a message of type 22
pub record BadType : Type 0 where
  pub bytes : error_bytes 1 1 (1 ∷ 22 ∷ 0 ∷ 8 ∷ 0 ∷ 0 ∷ 1 ∷ 2 ∷ [])
      ≡ 1 ∷ 1 ∷ 0 ∷ 20 ∷ 0 ∷ 0 ∷ 1 ∷ 2 ∷ 0 ∷ 1 ∷ 0 ∷ 1 ∷ 1 ∷ 22 ∷ 0 ∷ 8 ∷ 0 ∷ 0 ∷ 1 ∷ 2 ∷ []
