-- The fields of bytes, by their places.
use Rattle.std.proofs.Common.{◌≡◌, ℕ, suc, ◌+◌, ◌^◌, ◌<◌, ◌≤◌, List, [], ◌∷◌, ◌++◌, length, take, drop, refl, sym, ap}
use Rattle.std.proofs.Common.{◌∙◌, arith}
use Rattle.std.specs.Prelude.{slice_index}
use Rattle.std.proofs.lemmas.List.{drop_at, drop-drop, length-drop, length-take-le, take-append-drop, get_or-append-add}
use Rattle.byteorder.specs.Endian.{big_bytes, big_number}
use Rattle.byteorder.specs.Numbers.{big_number-reads_back, big_from-take}
use Rattle.of10_actions.specs.Spelling.{IsBytes}
use Rattle.of10_actions.proofs.Digits.{bytes_back, IsBytes-drop, IsBytes-take}

-- a number that was written is read
pub again : (n x : ℕ) (rest : List ℕ) → x < 256 ^ n → big_number n (big_bytes n x ++ rest) ≡ x
again n x rest fits = big_number-reads_back n x rest fits

-- what stands behind the first bytes
pub drop_past : (n k : ℕ) (front rest : List ℕ) → length front ≡ n → drop (n + k) (front ++ rest) ≡ drop k rest
drop_past n k front rest long = sym (drop-drop k n (front ++ rest)) ∙ ap (drop k) (drop_at front rest n long)

-- the bytes of a number that is read, and then the rest
pub split : (n at : ℕ) (frame : List ℕ) → IsBytes frame → at + n ≤ length frame
    → drop at frame ≡ big_bytes n (big_number n (drop at frame)) ++ drop (at + n) frame
split n at frame fits long =
    let rest = drop at frame in
    let room : n ≤ length rest = omega (arith, length-drop at frame) in
    let same : big_number n (take n rest) ≡ big_number n rest = big_from-take 0 n n rest (omega arith) in
    let back : big_bytes n (big_number n rest) ≡ take n rest = ap (big_bytes n) (sym same)
    ∙ bytes_back n (take n rest) (length-take-le n rest room) (IsBytes-take n rest (IsBytes-drop at frame fits)) in
    sym (take-append-drop n rest)
    ∙ (ap (λ (x : List ℕ). x ++ drop n rest) (sym back)
    ∙ ap (λ (x : List ℕ). big_bytes n (big_number n rest) ++ x) (drop-drop n at frame))

-- a list of one cell
pub cell : (xs : List ℕ) → length xs ≡ 1 → (a : ℕ) × (xs ≡ a ∷ [])
cell [] long = absurd (omega (arith, long))
cell (a ∷ []) long = (a, refl)
cell (a ∷ b ∷ xs) long = absurd (omega (arith, long))

-- a list of so many cells, and then the rest
pub cells : (n : ℕ) (xs : List ℕ) → length xs ≡ suc n → (a : ℕ) × (rest : List ℕ) × (xs ≡ a ∷ rest) × (length rest ≡ n)
cells n [] long = absurd (omega (arith, long))
cells n (a ∷ xs) long = (a, xs, refl, omega (arith, long))

-- a byte behind the first bytes
pub byte_past : (front rest : List ℕ) (n k : ℕ) → length front ≡ n
    → slice_index (front ++ rest) (n + k) ≡ slice_index rest k
byte_past front rest n k long = ap (λ (i : ℕ). slice_index (front ++ rest) (i + k)) (sym long)
    ∙ get_or-append-add front rest k 0
