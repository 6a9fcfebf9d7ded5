-- Names, numbers, digits and places are words.
use Rattle.std.proofs.Common.{◌≡◌, ℕ, ◌+◌, ◌-◌, ◌^◌, ◌<◌, ◌≤◌, Bool, true, false, cond, List, [], ◌∷◌, ◌++◌, length}
use Rattle.std.proofs.Common.{get_or, take, drop, Option, Some, None, Ok, refl, sym, ap, subst, ◌∙◌, inl, inr, arith}
use Rattle.std.specs.Prelude.{◌&&◌, ◌||◌, ◌==◌, ◌⊎◌, decimal, is_some, nat_le, nat_lt, not, position}
use Rattle.std.specs.List.{AllPass, list_all}
use Rattle.std.specs.Str.{all_ascii_digits}
use Rattle.std.proofs.lemmas.Bool.{eqb-true, le-leb, leb-true, lt-ltb, ne_eqb}
use Rattle.std.proofs.lemmas.Fmt.{decimal_nonempty, digits_decimal}
use Rattle.std.proofs.lemmas.List.{length-append}
use Rattle.std.proofs.lemmas.List.Folds.{list_all-append}
use Rattle.std.proofs.lemmas.List.Sums.{AllPass-from_list_all, list_all-from_AllPass}
use Rattle.hex.specs.Hex.{decode_of, hex_digit_value, is_hex_digit}
use Rattle.hex.proofs.HexLemmas.{decode_of-ok}
use Rattle.script_text.specs.Grammar.{IsHex, IsPlace}
use Rattle.script_text.specs.Names.{are_names_at, is_letter, is_member, is_name, is_name_byte, is_session}
use Rattle.script_text.specs.Words.{is_visible, is_word}
use Rattle.script_text.proofs.Digits.{own}
use Rattle.script_text.proofs.Places.{found_behind, lacks, not_found, parted, weaker}
use Rattle.script_text.proofs.Passed.{both}

pub either : (a b : Bool) → (a || b) ≡ true → (a ≡ true) ⊎ (b ≡ true)
either true b e = inl refl
either false b e = inr e

pub and_true : (a b : Bool) → a ≡ true → b ≡ true → (a && b) ≡ true
and_true a b x y = λ i. x i && y i

-- ---- bytes

in_range : (c : ℕ) → 33 ≤ c → c ≤ 126 → is_visible c ≡ true
in_range c low high = and_true (nat_le 33 c) (nat_le c 126) (le-leb 33 c low) (le-leb c 126 high)

-- a byte of a name is one of these
record IsNameByte (c : ℕ) : Type 0 where
  low : 48 ≤ c
  high : c ≤ 122
  colon : c ≡ 58 → ⊥
  at : c ≡ 64 → ⊥

letter_is : (c : ℕ) → is_letter c ≡ true → (97 ≤ c) × (c ≤ 122)
letter_is c e = let p = both (nat_le 97 c) (nat_le c 122) e in (leb-true _ _ p.0, leb-true _ _ p.1)

name_byte : (c : ℕ) → is_name_byte c ≡ true → IsNameByte c
name_byte c e =
    elim (either (is_letter c) ((nat_le 48 c && nat_le c 57) || (c == 95)) e) [
      | inl letter ↦ let r = letter_is c letter in
          record {
            low = omega (arith, r.0);
            high = r.1;
            colon = λ s. omega (arith, s, r.0);
            at = λ s. omega (arith, s, r.0);
          }
      | inr other ↦ elim (either (nat_le 48 c && nat_le c 57) (c == 95) other) [
        | inl digit ↦
            let r = both (nat_le 48 c) (nat_le c 57) digit in
            let low = leb-true _ _ r.0 in
            let high = leb-true _ _ r.1 in
            record {
              low = low;
              high = omega (arith, high);
              colon = λ s. omega (arith, s, high);
              at = λ s. omega (arith, s, high);
            }
        | inr line ↦ let s = eqb-true _ _ line in
            record {
              low = omega (arith, s);
              high = omega (arith, s);
              colon = λ t. omega (arith, s, t);
              at = λ t. omega (arith, s, t);
            }
      ]
    ]

name_visible : (c : ℕ) → is_name_byte c ≡ true → is_visible c ≡ true
name_visible c e = let b = name_byte c e in in_range c (omega (arith, b.low)) (omega (arith, b.high))

name_no_colon : (c : ℕ) → is_name_byte c ≡ true → not (c == 58) ≡ true
name_no_colon c e = ap not (ne_eqb c 58 (name_byte c e).colon)

name_no_at : (c : ℕ) → is_name_byte c ≡ true → not (c == 64) ≡ true
name_no_at c e = ap not (ne_eqb c 64 (name_byte c e).at)

-- ---- words

some_word : (word : List ℕ) → 0 < length word → list_all is_visible word ≡ true → is_word word ≡ true
some_word word some visible = and_true (nat_lt 0 (length word)) (list_all is_visible word) (lt-ltb 0 (length word) some)
    visible

pub name_bytes : (name : List ℕ) → is_name name ≡ true → list_all is_name_byte name ≡ true
name_bytes [] e = absurd cc
name_bytes (c ∷ cs) e =
    (both (nat_le (length (c ∷ cs)) 16) (list_all is_name_byte (c ∷ cs))
    (both (is_letter c) (nat_le (length (c ∷ cs)) 16 && list_all is_name_byte (c ∷ cs)) e).1).1

name_some : (name : List ℕ) → is_name name ≡ true → 0 < length name
name_some [] e = absurd cc
name_some (c ∷ cs) e = omega arith

name_all_visible : (name : List ℕ) → is_name name ≡ true → list_all is_visible name ≡ true
name_all_visible name e = weaker is_name_byte is_visible name_visible name (name_bytes name e)

pub name_word : (name : List ℕ) → is_name name ≡ true → is_word name ≡ true
name_word name e = some_word name (name_some name e) (name_all_visible name e)

-- two words about a visible byte
joined_word : (a b : List ℕ) (c : ℕ) → list_all is_visible a ≡ true → is_visible c ≡ true → list_all is_visible b ≡ true
    → is_word (a ++ (c ∷ b)) ≡ true
joined_word a b c va vc vb =
    some_word (a ++ (c ∷ b)) (omega (arith, length-append a (c ∷ b)))
    (list_all-append is_visible a (c ∷ b) ∙ (λ i. va i && (vc i && vb i)))

member_word : (name : List ℕ) → is_member name ≡ true → is_word name ≡ true
member_word name e = by (position (λ c. c == 64) name) refl e
  where
    by : (o : Option ℕ) → position (λ c. c == 64) name ≡ o → are_names_at name o ≡ true → is_word name ≡ true
    by None found e = absurd cc
    by (Some at) found e =
        let p = both (is_name (take at name)) (is_name (drop (at + 1) name)) e in
        ap is_word (parted 64 name at found)
        ∙ joined_word (take at name) (drop (at + 1) name) 64 (name_all_visible (take at name) p.0) refl
        (name_all_visible (drop (at + 1) name) p.1)

pub session_word : (name : List ℕ) → is_session name ≡ true → is_word name ≡ true
session_word name e =
    elim (either (is_name name) (is_member name) e)
    [ inl switch ↦ name_word name switch | inr member ↦ member_word name member ]

-- a switch's name is no member's
pub name_no_member : (name : List ℕ) → is_name name ≡ true → is_member name ≡ false
name_no_member name e =
    ap (are_names_at name)
    (not_found 64 name (weaker is_name_byte (λ c. not (c == 64)) name_no_at name (name_bytes name e)))

-- ---- numbers and digits

digits_visible : (ds : List ℕ) → all_ascii_digits ds ≡ true → list_all is_visible ds ≡ true
digits_visible [] e = refl
digits_visible (c ∷ cs) e =
    let p = both (nat_le 48 c && nat_le c 57) (all_ascii_digits cs) e in
    let r = both (nat_le 48 c) (nat_le c 57) p.0 in
    and_true (is_visible c) (list_all is_visible cs)
    (in_range c (omega (arith, leb-true _ _ r.0)) (omega (arith, leb-true _ _ r.1))) (digits_visible cs p.1)

decimal_visible : (n : ℕ) → n < 2 ^ 64 → list_all is_visible (decimal n) ≡ true
decimal_visible n small = digits_visible (decimal n) (digits_decimal own n small)

pub decimal_word : (n : ℕ) → n < 2 ^ 64 → is_word (decimal n) ≡ true
decimal_word n small = some_word (decimal n) (decimal_nonempty n small) (decimal_visible n small)

hex_visible : (c : ℕ) → is_hex_digit c ≡ true → is_visible c ≡ true
hex_visible c e = first (nat_le 65 c && nat_le c 70) refl e
  where
    range : (low high : ℕ) → 33 ≤ low → high ≤ 126 → (nat_le low c && nat_le c high) ≡ true → is_visible c ≡ true
    range low high above below t =
        let r = both (nat_le low c) (nat_le c high) t in
        in_range c (omega (arith, leb-true _ _ r.0, above)) (omega (arith, leb-true _ _ r.1, below))

    last : (b : Bool) → (nat_le 48 c && nat_le c 57) ≡ b → is_some (cond b (Some (c - 48)) None) ≡ true
        → is_visible c ≡ true
    last true t e = range 48 57 (omega arith) (omega arith) t
    last false t e = absurd cc

    next : (b : Bool) → (nat_le 97 c && nat_le c 102) ≡ b
        → is_some (cond b (Some (c - 87)) (cond (nat_le 48 c && nat_le c 57) (Some (c - 48)) None)) ≡ true
        → is_visible c ≡ true
    next true t e = range 97 102 (omega arith) (omega arith) t
    next false t e = last (nat_le 48 c && nat_le c 57) refl e

    first : (b : Bool) → (nat_le 65 c && nat_le c 70) ≡ b
        → is_some
        (cond b (Some (c - 55))
        (cond (nat_le 97 c && nat_le c 102) (Some (c - 87)) (cond (nat_le 48 c && nat_le c 57) (Some (c - 48)) None)))
        ≡ true → is_visible c ≡ true
    first true t e = range 65 70 (omega arith) (omega arith) t
    first false t e = next (nat_le 97 c && nat_le c 102) refl e

pub hex_word : (digits bytes : List ℕ) → IsHex digits bytes → is_word digits ≡ true
hex_word digits bytes h =
    let d = decode_of-ok digits bytes h.is in
    some_word digits (omega (arith, d.2, h.some))
    (weaker is_hex_digit is_visible hex_visible digits (list_all-from_AllPass is_hex_digit digits d.1))

pub place_word : (switch : List ℕ) (port : ℕ) (word : List ℕ) → IsPlace switch port word → is_word word ≡ true
place_word switch port word p =
    ap is_word p.is ∙ joined_word switch (decimal port) 58 (name_all_visible switch p.named) refl
    (decimal_visible port (omega (arith, p.small)))

-- the colon of a place
pub colon_found : (switch rest : List ℕ) → is_name switch ≡ true
    → position (λ c. c == 58) (switch ++ (58 ∷ rest)) ≡ Some (length switch)
colon_found switch rest e = found_behind 58 switch rest
    (weaker is_name_byte (λ c. not (c == 58)) name_no_colon switch (name_bytes switch e))
