-- The header of a message, and the ERROR message (sections 5.1 and 5.4.4 of the OpenFlow Switch
-- Specification 1.0.0).
use Rattle.std.specs.Prelude.{ℕ, List, ◌∷◌, ◌++◌, ◌+◌, length, take, drop}
use Rattle.byteorder.specs.Endian.{big_bytes, big_number}

-- version 1, the type, the length in two bytes, the transaction id in four
abbrev pub header_bytes : ℕ → ℕ → ℕ → List ℕ
header_bytes kind len xid = 1 ∷ kind ∷ big_bytes 2 len ++ big_bytes 4 xid

-- the length that a header gives
abbrev pub length_field : List ℕ → ℕ
length_field bytes = big_number 2 (drop 2 bytes)

-- the transaction id that a header gives
abbrev pub xid_field : List ℕ → ℕ
xid_field bytes = big_number 4 (drop 4 bytes)

-- an ERROR up to the bytes of the refused message: its header, type and code
abbrev pub error_head_bytes : ℕ → ℕ → ℕ → ℕ → List ℕ
error_head_bytes kind code len xid = header_bytes 1 len xid ++ big_bytes 2 kind ++ big_bytes 2 code

-- the ERROR that refuses a message: it has that message's transaction id, and at most its first 64 bytes
abbrev pub error_bytes : ℕ → ℕ → List ℕ → List ℕ
error_bytes kind code refused =
    error_head_bytes kind code (12 + length (take 64 refused)) (xid_field refused) ++ take 64 refused
