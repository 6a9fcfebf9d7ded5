-- The signs of a text, from left to right, with their places.
use Rattle.std.specs.Prelude.{ℕ, zero, suc, ◌+◌, ◌-◌, ◌==◌, ◌&&◌, ◌||◌, Bool, List, [], ◌∷◌, if◌then◌else◌, nat_le}
use Rattle.std.specs.Prelude.{slice_index, take}

-- what the grammar sees: a name; `+`, `>>`, `|>`; a parenthesis; or anything else
pub data Sign : Type 0 where
  name : List ℕ → Sign
  plus : Sign
  chain : Sign
  fallback : Sign
  opening : Sign
  closing : Sign
  other : Sign

-- a to z
abbrev pub is_letter : ℕ → Bool
is_letter b = nat_le 97 b && nat_le b 122

-- a to z, 0 to 9, `_`
abbrev pub is_name_byte : ℕ → Bool
is_name_byte b = is_letter b || (nat_le 48 b && nat_le b 57) || (b == 95)

-- how many bytes of a name the bytes begin with
abbrev pub name_length : List ℕ → ℕ
name_length [] = 0
name_length (b ∷ bs) = if is_name_byte b then suc (name_length bs) else 0

-- names have 16 bytes at most
abbrev pub name_sign : ℕ → List ℕ → Sign
name_sign length bytes = if nat_le length 16 then name (take length bytes) else other

-- the sign that the bytes begin with; `+` is 43, `(` 40, `)` 41, `>` 62, `|` 124
abbrev pub front_sign : List ℕ → Sign
front_sign bytes =
    let first = slice_index bytes 0 in
    let second = slice_index bytes 1 in
    if first == 43 then plus else
    if first == 40 then opening else
    if first == 41 then closing else
    if (first == 62) && (second == 62) then chain else
    if (first == 124) && (second == 62) then fallback else
    if is_letter first then name_sign (name_length bytes) bytes else other

-- how many bytes a sign takes
abbrev pub width_of : Sign → List ℕ → ℕ
width_of chain bytes = 2
width_of fallback bytes = 2
width_of (name n) bytes = name_length bytes
width_of plus bytes = 1
width_of opening bytes = 1
width_of closing bytes = 1
width_of other bytes = 1

-- The signs of bytes that stand from a place on, each with its place, where the first `skipped` bytes are of
-- a sign before them. Blanks (32) stand between signs.
abbrev pub signs_from : ℕ → ℕ → List ℕ → List (ℕ × Sign)
signs_from skipped place [] = []
signs_from (suc skipped) place (b ∷ bs) = signs_from skipped (place + 1) bs
signs_from zero place (b ∷ bs) =
    if b == 32 then signs_from 0 (place + 1) bs
    else (place, front_sign (b ∷ bs)) ∷ signs_from (width_of (front_sign (b ∷ bs)) (b ∷ bs) - 1) (place + 1) bs

-- the signs of a text
abbrev pub signs_of : List ℕ → List (ℕ × Sign)
signs_of text = signs_from 0 0 text
