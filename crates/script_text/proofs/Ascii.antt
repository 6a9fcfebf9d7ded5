-- Digits are ASCII.
use Rattle.std.proofs.Common.{◌≡◌, ℕ, zero, suc, ◌<◌, true, List, [], ◌∷◌, refl, ap, arith}
use Rattle.std.specs.Prelude.{◌&&◌, nat_lt}
use Rattle.std.specs.List.{list_all}
use Rattle.std.specs.Str.{IsAscii}
use Rattle.std.proofs.lemmas.Bool.{lt-ltb, ltb-true}
use Rattle.hex.specs.Hex.{encode_lower, lower_digits}
use Rattle.hex.proofs.HexLemmas.{IsAscii-encode_with}
use Rattle.script_text.specs.Lines.{is_ascii}
use Rattle.script_text.proofs.Passed.{both}

pub all_ascii : (xs : List ℕ) → IsAscii xs → list_all is_ascii xs ≡ true
all_ascii [] h = refl
all_ascii (x ∷ xs) h = λ i. lt-ltb x 128 (h 0) i && all_ascii xs (λ k. h (suc k)) i

is_ascii_text : (xs : List ℕ) → list_all is_ascii xs ≡ true → IsAscii xs
is_ascii_text [] e i = omega arith
is_ascii_text (x ∷ xs) e zero = ltb-true x 128 (both (nat_lt x 128) (list_all is_ascii xs) e).0
is_ascii_text (x ∷ xs) e (suc i) = is_ascii_text xs (both (nat_lt x 128) (list_all is_ascii xs) e).1 i

pub hex_ascii : (bytes : List ℕ) → list_all is_ascii (encode_lower bytes) ≡ true
hex_ascii bytes = all_ascii (encode_lower bytes)
    (IsAscii-encode_with lower_digits bytes (is_ascii_text lower_digits refl))
