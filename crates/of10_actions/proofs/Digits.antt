-- The bytes of a number that was read from bytes are those bytes.
use Rattle.std.proofs.Common.{◌≡◌, ℕ, zero, suc, ◌+◌, ◌*◌, ◌/◌, ◌%◌, ◌^◌, ◌<◌, List, [], ◌∷◌, length, take, drop, inl}
use Rattle.std.proofs.Common.{inr, refl, sym, ap, ◌∙◌, arith}
use Rattle.std.specs.Int.{byte_at, bytes_high_first}
use Rattle.std.proofs.lemmas.List.{append-nil, length-take, get_or-drop, get_or-take, get_or_past}
use Rattle.std.proofs.lemmas.Bool.{cases_lt}
use Rattle.std.proofs.Math.Nat.{mod-eq_of_lt, mod-lt, mul-add-mod_self_right, mul-div_cancel}
use Rattle.byteorder.specs.Endian.{big_from}
use Rattle.of10_actions.specs.Spelling.{IsBytes}
use Rattle.byteorder.specs.Numbers.{big_from-cons, big_from-lt, big_number-reads_back, length-bytes_high_first}

pub IsBytes-rest : (b : ℕ) (bytes : List ℕ) → IsBytes (b ∷ bytes) → IsBytes bytes
IsBytes-rest b bytes fits i = fits (suc i)

pub IsBytes-drop : (n : ℕ) (bytes : List ℕ) → IsBytes bytes → IsBytes (drop n bytes)
IsBytes-drop n bytes fits i = rw get_or-drop (fits (n + i))

pub IsBytes-take : (n : ℕ) (bytes : List ℕ) → IsBytes bytes → IsBytes (take n bytes)
IsBytes-take n bytes fits i =
    elim (cases_lt i n) [
      | inl lt ↦ rw (get_or-take n bytes i 0 lt) (fits i)
      | inr le ↦ rw (get_or_past (take n bytes) i 0 (omega (arith, length-take n bytes))) (omega arith)
    ]

byte_at-lt : (k x : ℕ) → byte_at k x < 256
byte_at-lt zero x = mod-lt x (omega arith)
byte_at-lt (suc k) x = mod-lt (x / 256 ^ suc k) (omega arith)

IsBytes-bytes_high_first : (n x : ℕ) → IsBytes (bytes_high_first n x)
IsBytes-bytes_high_first zero x i = omega arith
IsBytes-bytes_high_first (suc n) x zero = byte_at-lt n x
IsBytes-bytes_high_first (suc n) x (suc i) = IsBytes-bytes_high_first n x i

-- a high part and a low part, to the base c
parts : (x y r s c : ℕ) → r < c → s < c → x * c + r ≡ y * c + s → (x ≡ y) × (r ≡ s)
parts x y r s c r_lt s_lt e =
    let pos : 0 < c = omega arith in
    let low : r ≡ s = sym (mod-eq_of_lt r_lt) ∙ sym (mul-add-mod_self_right x c r) ∙ ap (λ (n : ℕ). n % c) e
    ∙ mul-add-mod_self_right y c s ∙ mod-eq_of_lt s_lt in
    let high : x * c ≡ y * c = omega (arith, e, low) in
    (sym (mul-div_cancel x pos) ∙ ap (λ (n : ℕ). n / c) high ∙ mul-div_cancel y pos, low)

-- bytes of one number are the same bytes
same_bytes : (n : ℕ) (xs ys : List ℕ) → length xs ≡ n → length ys ≡ n → IsBytes xs → IsBytes ys
    → big_from 0 n xs ≡ big_from 0 n ys → xs ≡ ys
same_bytes zero [] [] lx ly fx fy e = refl
same_bytes zero (x ∷ xs) ys lx ly fx fy e = absurd (omega (arith, lx))
same_bytes zero [] (y ∷ ys) lx ly fx fy e = absurd (omega (arith, ly))
same_bytes (suc n) [] ys lx ly fx fy e = absurd (omega (arith, lx))
same_bytes (suc n) (x ∷ xs) [] lx ly fx fy e = absurd (omega (arith, ly))
same_bytes (suc n) (x ∷ xs) (y ∷ ys) lx ly fx fy e =
    let moved : x * 256 ^ n + big_from 0 n xs ≡ y * 256 ^ n + big_from 0 n ys =
    ap (λ (r : ℕ). x * 256 ^ n + r) (sym (big_from-cons 0 n x xs)) ∙ e
    ∙ ap (λ (r : ℕ). y * 256 ^ n + r) (big_from-cons 0 n y ys) in
    let both = parts x y (big_from 0 n xs) (big_from 0 n ys) (256 ^ n) (big_from-lt 0 n xs (IsBytes-rest x xs fx))
    (big_from-lt 0 n ys (IsBytes-rest y ys fy)) moved in
    let rest = same_bytes n xs ys (omega (arith, lx)) (omega (arith, ly)) (IsBytes-rest x xs fx) (IsBytes-rest y ys fy)
    both.1 in
    rw (both.0, rest) refl

pub bytes_back : (n : ℕ) (xs : List ℕ) → length xs ≡ n → IsBytes xs → bytes_high_first n (big_from 0 n xs) ≡ xs
bytes_back n xs long fits =
    let x = big_from 0 n xs in
    let again : big_from 0 n (bytes_high_first n x) ≡ x = ap (big_from 0 n) (sym (append-nil (bytes_high_first n x)))
    ∙ big_number-reads_back n x [] (big_from-lt 0 n xs fits) in
    same_bytes n (bytes_high_first n x) xs (length-bytes_high_first n x) long (IsBytes-bytes_high_first n x) fits again
