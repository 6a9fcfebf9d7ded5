-- The digits of messages.
use Rattle.std.proofs.Common.{◌≡◌, ◌∙◌, ℕ, zero, suc, ◌+◌, ◌/◌, ◌%◌, ◌<◌, ◌⊎◌, inl, inr, ◌==◌, ◌&&◌, Bool, true, false}
use Rattle.std.proofs.Common.{true≢false, ◌≤◌, ◌*◌, not, List, [], ◌∷◌, length, Result, Ok, Err}
use Rattle.std.proofs.Common.{arith}
use Rattle.std.proofs.Common.{refl, sym, ap, subst}
use Rattle.std.specs.Prelude.{slice_index}
use Rattle.hex.specs.Hex.{IsBytes, decode_of, decode_pairs, encode_lower, encode_with, lower_digits}
use Rattle.hex.specs.Hex.{digit_or_error, pair_value, value_at}
use Rattle.hex.specs.declared.error.FromHexError.{FromHexError}
use Rattle.hex.specs.declared.error.FromHexError.TheVariants.{InvalidHexCharacter}
use Rattle.hex.proofs.HexLemmas.{IsDigits-lower_digits, decode_of-encode_lower, decode_of-even, length-encode_with}
use Rattle.hex.proofs.Pairs.{cons_byte, decode_pairs-err_pair, decode_pairs-ok_pair}
use Rattle.std.proofs.lemmas.Bool.{cases_lt}
use Rattle.report_lines.specs.Lines.{is_line}
use Rattle.report_lines.specs.ReadBack.{MessagesAreReadBack, read_back}
use Rattle.report_lines.specs.Reading.{read_of}

-- no item is a line feed, and so no item is one that is looked up
looked_up : (xs : List ℕ) → is_line xs ≡ true → (i : ℕ) → (slice_index xs i == 10) ≡ false
looked_up [] h i = refl
looked_up (x ∷ xs) h i = by (x == 10) refl h i (looked_up xs)
  where
    by : (b : Bool) → (x == 10) ≡ b → (not b && is_line xs) ≡ true → (i : ℕ)
        → (is_line xs ≡ true → (j : ℕ) → (slice_index xs j == 10) ≡ false) → (slice_index (x ∷ xs) i == 10) ≡ false
    by true e k i f = absurd (true≢false (sym k))
    by false e k zero f = e
    by false e k (suc i) f = f k i

-- digits are no line feeds
digits_line : (t : List ℕ) → is_line t ≡ true → (message : List ℕ) → is_line (encode_with t message) ≡ true
unfolding encode_with
digits_line t h [] = refl
digits_line t h (b ∷ message) =
    ap (λ x. not x && (not (slice_index t (b % 16) == 10) && is_line (encode_with t message))) (looked_up t h (b / 16))
    ∙ (ap (λ x. not x && is_line (encode_with t message)) (looked_up t h (b % 16)) ∙ digits_line t h message)

pub hex_line : (message : List ℕ) → is_line (encode_lower message) ≡ true
hex_line message = digits_line lower_digits refl message

bytes_read : (message : List ℕ) → IsBytes message → read_back message ≡ message ∷ []
bytes_read message h = ap read_of (decode_of-encode_lower message h)

-- what isn't a byte has no digits
abbrev AsOrNone : List ℕ → Result (List ℕ) FromHexError → Type 0
AsOrNone message r = (r ≡ Ok message) ⊎ ((fault : FromHexError) × (r ≡ Err fault))

beyond : (xs : List ℕ) (i : ℕ) → length xs ≤ i → slice_index xs i ≡ 0
beyond [] i h = refl
beyond (x ∷ xs) zero h = absurd (omega (arith, h))
beyond (x ∷ xs) (suc i) h = beyond xs i (omega (arith, h))

decoded : (i : ℕ) (message : List ℕ) → AsOrNone message (decode_pairs i (encode_with lower_digits message))
unfolding encode_with decode_pairs
decoded i [] = inl refl
decoded i (b ∷ message) = by (cases_lt (b / 16) 16) (decoded (i + 2) message)
  where
    high : ℕ
    high = slice_index lower_digits (b / 16)

    low : ℕ
    low = slice_index lower_digits (b % 16)

    digits : List ℕ
    digits = encode_with lower_digits message

    after : AsOrNone message (decode_pairs (i + 2) digits)
        → AsOrNone (b ∷ message) (cons_byte b (decode_pairs (i + 2) digits))
    after (inl e) = inl (ap (cons_byte b) e)
    after (inr (fault, e)) = inr (fault, ap (cons_byte b) e)

    by : (b / 16 < 16) ⊎ (16 ≤ b / 16) → AsOrNone message (decode_pairs (i + 2) digits)
        → AsOrNone (b ∷ message) (decode_pairs i (high ∷ low ∷ digits))
    by (inl fits) rest =
        let below : b % 16 < 16 = omega arith in
        let first : value_at high i ≡ Ok (b / 16) = ap (digit_or_error high i) (IsDigits-lower_digits (b / 16) fits) in
        let second : value_at low (i + 1) ≡ Ok (b % 16) =
        ap (digit_or_error low (i + 1)) (IsDigits-lower_digits (b % 16) below) in
        let whole : b / 16 * 16 + b % 16 ≡ b = omega arith in
        let pair : pair_value high low i ≡ Ok (b / 16 * 16 + b % 16) = rw (first, second) refl in
        let is : pair_value high low i ≡ Ok b = pair ∙ ap (λ (v : ℕ). Ok v) whole in
        subst (AsOrNone (b ∷ message)) (sym (decode_pairs-ok_pair i high low b digits is))
        (after rest)
    by (inr much) rest =
        let none : high ≡ 0 = beyond lower_digits (b / 16) much in
        let first : value_at high i ≡ Err (InvalidHexCharacter 0 i) = ap (λ (c : ℕ). value_at c i) none in
        let is : pair_value high low i ≡ Err (InvalidHexCharacter 0 i) = rw first refl in
        inr (InvalidHexCharacter 0 i, decode_pairs-err_pair i high low (InvalidHexCharacter 0 i) digits is)

any_read : (message : List ℕ) → (read_back message ≡ message ∷ []) ⊎ (read_back message ≡ [])
any_read message = by (decoded 0 message)
  where
    even : decode_of (encode_lower message) ≡ decode_pairs 0 (encode_lower message)
    even =
        let long = length-encode_with lower_digits message in
        decode_of-even (encode_lower message) (omega (arith, long))

    by : AsOrNone message (decode_pairs 0 (encode_lower message))
        → (read_back message ≡ message ∷ []) ⊎ (read_back message ≡ [])
    by (inl e) = inl (ap read_of (even ∙ e))
    by (inr (fault, e)) = inr (ap read_of (even ∙ e))

pub messages_read : MessagesAreReadBack
messages_read = record { bytes = bytes_read; any = any_read }
