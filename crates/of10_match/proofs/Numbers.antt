-- Numbers in the bytes of a part of a list.
use Rattle.std.proofs.Common.{◌≡◌, ◌<◌, ◌≤◌, ◌+◌, ◌^◌, ℕ, zero, suc, List, take, drop, slice_index, refl, sym, subst}
use Rattle.std.proofs.Common.{◌∙◌, ap, arith}
use Rattle.byteorder.specs.Endian.{big_from}
use Rattle.byteorder.specs.Numbers.{big_from-lt, big_from-take}
use Rattle.std.proofs.lemmas.List.{get_or-drop}

-- the number at a place of what follows place i
big_from-drop : (j n i : ℕ) (xs : List ℕ) → big_from j n (drop i xs) ≡ big_from (i + j) n xs
big_from-drop j zero i xs = refl
big_from-drop j (suc n) i xs =
    let byte = get_or-drop i xs j 0 in
    let rest = big_from-drop (suc j) n i xs in
    let next : i + suc j ≡ suc (i + j) = omega arith in
    rw (byte, rest, next) refl

-- the number of n bytes at the start of a part is the number at that part's place
pub number_at-part : (i n m : ℕ) (xs : List ℕ) → n ≤ m → big_from 0 n (take m (drop i xs)) ≡ big_from i n xs
number_at-part i n m xs fits =
    let whole : i + 0 ≡ i = omega arith in
    big_from-take 0 n m (drop i xs) (omega arith) ∙ (big_from-drop 0 n i xs ∙ ap (λ k. big_from k n xs) whole)

-- a number of n bytes is below 256 ^ n
pub number_at-fits : (i n v : ℕ) (xs : List ℕ) → ((k : ℕ) → slice_index xs k < 256) → v ≡ big_from i n xs → v < 256 ^ n
number_at-fits i n v xs bytes e =
    let P : ℕ → Type 0 = λ m. m < 256 ^ n in
    subst P (sym e) (big_from-lt i n xs bytes)
