-- The lines of bytes, as far as they were read.
use Rattle.std.proofs.Common.{◌≡◌, ℕ, suc, ◌+◌, ◌<◌, ◌≤◌, ◌==◌, Bool, true, false, cond, not, List, [], ◌∷◌, ◌++◌}
use Rattle.std.proofs.Common.{length, take, drop, refl, sym, ap, subst, ◌∙◌, append_assoc, arith, rules}
use Rattle.std.specs.Prelude.{if◌then◌else◌}
use Rattle.std.specs.List.{position_or_len, prefix_len}
use Rattle.std.proofs.lemmas.List.{append-nil}
use Rattle.replay_report.specs.Reports.{whole_lines, unfinished}

-- how many bytes come before the first line feed, or of all
abbrev pub before : List ℕ → ℕ
before bytes = position_or_len (λ byte. byte == 10) bytes

-- a byte of a line, and how many come before its end
place_next : (b : Bool) (k size : ℕ) → b ≡ false → cond (not b) (1 + k) 0 < suc size → k < size
place_next b k size e h =
    let h2 : cond (not false) (1 + k) 0 < suc size = subst (λ c. cond (not c) (1 + k) 0 < suc size) e h in omega arith

lines_next : (b : Bool) (line : List ℕ) (byte : ℕ) (bytes more : List ℕ) (k : ℕ)
    → (b ≡ false → whole_lines (line ++ byte ∷ []) (bytes ++ more)
    ≡ ((line ++ byte ∷ []) ++ take k bytes) ∷ whole_lines [] (drop (k + 1) bytes ++ more))
    → (if b then line ∷ whole_lines [] (bytes ++ more) else whole_lines (line ++ byte ∷ []) (bytes ++ more))
    ≡ (line ++ take (cond (not b) (1 + k) 0) (byte ∷ bytes)) ∷ whole_lines []
    (drop (cond (not b) (1 + k) 0 + 1) (byte ∷ bytes) ++ more)
lines_next true line byte bytes more k f =
    ap (λ (xs : List ℕ). xs ∷ whole_lines [] (bytes ++ more)) (sym (append-nil line))
lines_next false line byte bytes more k f =
    let e : 1 + k ≡ suc k = omega arith in
    let d : 1 + k + 1 ≡ suc (k + 1) = omega arith in
    rw (d, e) (f refl ∙ ap (λ (xs : List ℕ). xs ∷ whole_lines [] (drop (k + 1) bytes ++ more))
    (append_assoc line (byte ∷ []) (take k bytes)))

-- up to the first line feed
pub whole_at : (line bytes more : List ℕ) → before bytes < length bytes →
    whole_lines line (bytes ++ more) ≡ (line ++ take (before bytes) bytes)
    ∷ whole_lines [] (drop (before bytes + 1) bytes ++ more)
whole_at line [] more h = absurd (omega arith)
whole_at line (byte ∷ bytes) more h =
    lines_next (byte == 10) line byte bytes more (before bytes)
    (λ e. whole_at (line ++ byte ∷ []) bytes more (place_next (byte == 10) (before bytes) (length bytes) e h))

rest_next : (b : Bool) (line : List ℕ) (byte : ℕ) (bytes more : List ℕ) (k : ℕ)
    → (b ≡ false → unfinished (line ++ byte ∷ []) (bytes ++ more) ≡ unfinished [] (drop (k + 1) bytes ++ more))
    → (if b then unfinished [] (bytes ++ more) else unfinished (line ++ byte ∷ []) (bytes ++ more))
    ≡ unfinished [] (drop (cond (not b) (1 + k) 0 + 1) (byte ∷ bytes) ++ more)
rest_next true line byte bytes more k f = refl
rest_next false line byte bytes more k f =
    let d : 1 + k + 1 ≡ suc (k + 1) = omega arith in
    rw d (f refl)

pub rest_at : (line bytes more : List ℕ) → before bytes < length bytes →
    unfinished line (bytes ++ more) ≡ unfinished [] (drop (before bytes + 1) bytes ++ more)
rest_at line [] more h = absurd (omega arith)
rest_at line (byte ∷ bytes) more h =
    rest_next (byte == 10) line byte bytes more (before bytes)
    (λ e. rest_at (line ++ byte ∷ []) bytes more (place_next (byte == 10) (before bytes) (length bytes) e h))

-- bytes without a line feed are of the line
feedless : (b : Bool) (k size : ℕ) → suc size ≤ cond (not b) (1 + k) 0 → (b ≡ false) × (size ≤ k)
feedless true k size h = absurd (omega arith)
feedless false k size h = (refl, omega arith)

pub part_lines : (line bytes more : List ℕ) → length bytes ≤ before bytes
    → whole_lines line (bytes ++ more) ≡ whole_lines (line ++ bytes) more
part_lines line [] more h = ap (λ (xs : List ℕ). whole_lines xs more) (sym (append-nil line))
part_lines line (byte ∷ bytes) more h =
    let n = feedless (byte == 10) (before bytes) (length bytes) h in
    rw n.0 (part_lines (line ++ byte ∷ []) bytes more n.1
    ∙ ap (λ (xs : List ℕ). whole_lines xs more) (append_assoc line (byte ∷ []) bytes))

pub part_rest : (line bytes more : List ℕ) → length bytes ≤ before bytes
    → unfinished line (bytes ++ more) ≡ unfinished (line ++ bytes) more
part_rest line [] more h = ap (λ (xs : List ℕ). unfinished xs more) (sym (append-nil line))
part_rest line (byte ∷ bytes) more h =
    let n = feedless (byte == 10) (before bytes) (length bytes) h in
    rw n.0 (part_rest (line ++ byte ∷ []) bytes more n.1
    ∙ ap (λ (xs : List ℕ). unfinished xs more) (append_assoc line (byte ∷ []) bytes))
