-- Texts that pass a test are ASCII.
use Rattle.std.proofs.Common.{◌≡◌, ◌<◌, ◌==◌, ◌||◌, ◌&&◌, Bool, true, false, ℕ, List, [], ◌∷◌, arith, length}
use Rattle.std.specs.Char.{is_ascii, is_ascii_graphic, is_ascii_lowercase, is_ascii_digit}
use Rattle.std.specs.List.{list_all}
use Rattle.std.proofs.lemmas.List.Sums.{AllPass-from_list_all}
use Rattle.cv_io.specs.Text.{IsAsciiText}
use Rattle.policies.specs.Names.{is_printable, is_address, is_name_byte, is_name}

pub ascii_by : (p : ℕ → Bool) → ((b : ℕ) → p b ≡ true → b < 128) → (s : List ℕ) → list_all p s ≡ true → IsAsciiText s
ascii_by p low s e = λ k d lt. low _ (AllPass-from_list_all p s e k d lt)

pub ascii_low : (b : ℕ) → is_ascii b ≡ true → b < 128
ascii_low b e = grind arith

pub ascii_all : (s : List ℕ) → list_all is_ascii s ≡ true → IsAsciiText s
ascii_all s e = ascii_by is_ascii ascii_low s e

pub printable_low : (b : ℕ) → is_printable b ≡ true → b < 128
printable_low b e = grind arith

pub ascii_address : (s : List ℕ) → is_address s ≡ true → IsAsciiText s
ascii_address s e = ascii_by is_printable printable_low s (grind arith)

pub name_byte_low : (b : ℕ) → is_name_byte b ≡ true → b < 128
name_byte_low b e = grind arith

pub name_bytes : (s : List ℕ) → is_name s ≡ true → list_all is_name_byte s ≡ true
name_bytes [] e = grind arith
name_bytes (b ∷ bs) e = grind arith

pub ascii_name : (s : List ℕ) → is_name s ≡ true → IsAsciiText s
ascii_name s e = ascii_by is_name_byte name_byte_low s (name_bytes s e)
