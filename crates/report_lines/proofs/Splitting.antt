-- A text of lines, split.
use Rattle.std.proofs.Common.{◌≡◌, ◌∙◌, ℕ, ◌==◌, ◌&&◌, Bool, true, false, true≢false, not, List, [], ◌∷◌, ◌++◌}
use Rattle.std.proofs.Common.{append-nil}
use Rattle.std.proofs.Common.{append_assoc, if◌then◌else◌, sym, ap}
use Rattle.report_lines.specs.Lines.{as_line, is_line, lines_behind, lines_in}

-- a line that has its line feed, and what follows
line_first : (begun line rest : List ℕ) → is_line line ≡ true
    → lines_behind begun (line ++ 10 ∷ rest) ≡ (begun ++ line) ∷ lines_in rest
line_first begun [] rest h = ap (λ l. l ∷ lines_in rest) (sym (append-nil begun))
line_first begun (c ∷ line) rest h = by (c == 10) h (line_first (begun ++ c ∷ []) line rest)
  where
    by : (b : Bool) → (not b && is_line line) ≡ true
        → (is_line line ≡ true
        → lines_behind (begun ++ c ∷ []) (line ++ 10 ∷ rest) ≡ ((begun ++ c ∷ []) ++ line) ∷ lines_in rest)
        → (if b then begun ∷ lines_in (line ++ 10 ∷ rest) else lines_behind (begun ++ c ∷ []) (line ++ 10 ∷ rest))
        ≡ (begun ++ c ∷ line) ∷ lines_in rest
    by true k f = absurd (true≢false (sym k))
    by false k f =
        f k
        ∙ ap (λ l. l ∷ lines_in rest) (append_assoc begun (c ∷ []) line)

pub one_line : (line rest : List ℕ) → is_line line ≡ true → lines_in (as_line line ++ rest) ≡ line ∷ lines_in rest
one_line line rest h = ap lines_in (append_assoc line (10 ∷ []) rest) ∙ line_first [] line rest h
