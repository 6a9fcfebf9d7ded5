-- The frames at the front of bytes, and what is left behind them.
use Rattle.std.specs.Prelude.{◌≡◌, ℕ, zero, suc, Bool, true, false, ◌&&◌, nat_le, nat_lt, List, [], ◌∷◌, Option, Some}
use Rattle.std.specs.Prelude.{None, length, take, drop, if◌then◌else◌}
use Rattle.of10_frames.specs.Wire.{length_field}

-- the bytes begin with a whole frame: a length that is a header's at least, and so many bytes
abbrev pub begins_whole : List ℕ → Bool
begins_whole bytes = nat_le 8 (length_field bytes) && nat_le (length_field bytes) (length bytes)

-- the frames at the front of bytes, at most so many, and what is left behind them
abbrev pub frames_up_to : ℕ → List ℕ → List (List ℕ)
frames_up_to zero bytes = []
frames_up_to (suc n) bytes =
    if begins_whole bytes
    then take (length_field bytes) bytes ∷ frames_up_to n (drop (length_field bytes) bytes) else []

abbrev pub rest_up_to : ℕ → List ℕ → List ℕ
rest_up_to zero bytes = bytes
rest_up_to (suc n) bytes = if begins_whole bytes then rest_up_to n (drop (length_field bytes) bytes) else bytes

-- all frames, of which there are no more than bytes
unfoldable pub frames_of : List ℕ → List (List ℕ)
frames_of bytes = frames_up_to (length bytes) bytes

unfoldable pub rest_of : List ℕ → List ℕ
rest_of bytes = rest_up_to (length bytes) bytes

-- the length field is there, and is less than a header's length
abbrev pub is_short : List ℕ → Bool
is_short bytes = nat_le 4 (length bytes) && nat_lt (length_field bytes) 8

-- what is left behind all frames shows a short length, or none
abbrev pub Left : Option ℕ → List ℕ → Type 0
Left (Some len) rest = (is_short rest ≡ true) × (len ≡ length_field rest)
Left None rest = is_short rest ≡ false
