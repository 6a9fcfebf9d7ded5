-- What is read of a report is what it was made of.
use Rattle.std.proofs.Common.{◌≡◌, ◌∙◌, ℕ, ◌==◌, ◌&&◌, ◌||◌, Bool, true, false, true≢false, not, List, [], ◌∷◌, ◌++◌}
use Rattle.std.proofs.Common.{Some}
use Rattle.std.proofs.Common.{None, append-nil, if◌then◌else◌, refl, sym, ap}
use Rattle.std.proofs.lemmas.List.Concat.{flat_map-append}
use Rattle.std.specs.Prelude.{codes, flat_map, nat_eq}
use Rattle.std.specs.Cmp.Lexicographic.{pointwise}
use Rattle.hex.specs.Hex.{encode_lower}
use Rattle.report_lines.specs.Lines.{is_line, is_word, lines_in}
use Rattle.report_lines.specs.ReadBack.{IsPlain, Other, ReportsAreReadBack, To, Told, line_of, read_back}
use Rattle.report_lines.specs.ReadBack.{report_with, said_by, said_to}
use Rattle.report_lines.specs.Reading.{message_in, told_by}
use Rattle.report_lines.proofs.Digits.{hex_line}
use Rattle.report_lines.proofs.Heads.{head_behind, no_longer}
use Rattle.report_lines.proofs.Splitting.{one_line}

-- lines of parts
pub both_lines : (xs ys : List ℕ) → is_line xs ≡ true → is_line ys ≡ true → is_line (xs ++ ys) ≡ true
both_lines [] ys h k = k
both_lines (x ∷ xs) ys h k = by (x == 10) h (λ e. both_lines xs ys e k)
  where
    by : (b : Bool) → (not b && is_line xs) ≡ true → (is_line xs ≡ true → is_line (xs ++ ys) ≡ true)
        → (not b && is_line (xs ++ ys)) ≡ true
    by true e f = absurd (true≢false (sym e))
    by false e f = f e

-- a word is a line
pub word_line : (name : List ℕ) → is_word name ≡ true → is_line name ≡ true
word_line [] h = refl
word_line (c ∷ name) h = by (c == 10) (c == 32) h (word_line name)
  where
    by : (a b : Bool) → (not (a || b) && is_word name) ≡ true → (is_word name ≡ true → is_line name ≡ true)
        → (not a && is_line name) ≡ true
    by true b e f = absurd (true≢false (sym e))
    by false true e f = absurd (true≢false (sym e))
    by false false e f = f e

plain_line : (t : Told) → IsPlain t → is_line (line_of t) ≡ true
plain_line (To name message) h =
    both_lines name (32 ∷ encode_lower message) (word_line name h) (hex_line message)
plain_line (Other line) h = h.0

-- what one line says
one_told : (name : List ℕ) → is_word name ≡ true → (t : Told) → IsPlain t
    → told_by name (line_of t) ≡ flat_map read_back (said_by name t)
one_told name h (To other message) k =
    ap message_in (head_behind name other message h k) ∙ by (pointwise nat_eq name other)
  where
    by : (b : Bool) → message_in (if b then Some (encode_lower message) else None)
        ≡ flat_map read_back (if b then message ∷ [] else [])
    by true = sym (append-nil (read_back message))
    by false = refl
one_told name h (Other line) k = ap message_in (no_longer (codes "to ") (name ++ codes " ") line k.1)

pub reports_read : ReportsAreReadBack
reports_read name h [] plain = refl
reports_read name h (t ∷ told) plain =
    ap (flat_map (told_by name)) (one_line (line_of t) (report_with told) (plain_line t plain.0))
    ∙ ((λ i. one_told name h t plain.0 i ++ flat_map (told_by name) (lines_in (report_with told)))
    ∙ (ap (λ ms. flat_map read_back (said_by name t) ++ ms) (reports_read name h told plain.1)
    ∙ sym (flat_map-append read_back (said_by name t) (said_to name told))))
