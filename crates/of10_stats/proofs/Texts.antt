-- The texts that describe a switch, one after the other.
use Rattle.std.proofs.Common.{◌≡◌, ℕ, ◌+◌, ◌<◌, ◌≤◌, List, [], ◌∷◌, ◌++◌, length, get_or, take, drop, sym, ap, ◌∙◌}
use Rattle.std.proofs.Common.{append_assoc}
use Rattle.std.specs.Prelude.{sum}
use Rattle.std.proofs.lemmas.List.{append-nil, drop_all, drop_more}
use Rattle.of10_stats.specs.Reading.{texts_of}
use Rattle.of10_stats.proofs.Lengths.{sum_cons}

-- what is left of the widths begins with the next
pub width_left : (widths : List ℕ) (i : ℕ) → i < length widths
    → sum (drop i widths) ≡ get_or widths i 0 + sum (drop (i + 1) widths)
width_left widths i lt = ap sum (drop_more widths i 0 lt) ∙ sum_cons (get_or widths i 0) (drop (i + 1) widths)

-- one more text is read
pub texts_more : (widths : List ℕ) (i : ℕ) (left : List ℕ) (front total : List (List ℕ)) → i < length widths
    → front ++ texts_of (drop i widths) left ≡ total →
    (front ++ take (get_or widths i 0) left ∷ []) ++ texts_of (drop (i + 1) widths) (drop (get_or widths i 0) left)
    ≡ total
unfolding texts_of
texts_more widths i left front total lt so_far =
    append_assoc front (take (get_or widths i 0) left ∷ [])
    (texts_of (drop (i + 1) widths) (drop (get_or widths i 0) left))
    ∙ (ap (λ (ws : List ℕ). front ++ texts_of ws left) (sym (drop_more widths i 0 lt)) ∙ so_far)

pub texts_end : (widths : List ℕ) (i : ℕ) (left : List ℕ) (front total : List (List ℕ)) → length widths ≤ i
    → front ++ texts_of (drop i widths) left ≡ total → front ≡ total
unfolding texts_of
texts_end widths i left front total over so_far =
    sym (append-nil front) ∙ (ap (λ (ws : List ℕ). front ++ texts_of ws left) (sym (drop_all i widths over)) ∙ so_far)
