-- The steps of a script as far as it was read.
use Rattle.std.proofs.Common.{◌≡◌, ℕ, ◌+◌, ◌<◌, ◌≤◌, List, [], ◌∷◌, ◌++◌, Result, Ok, Err, length, refl, sym, ap, subst}
use Rattle.std.proofs.Common.{◌∙◌, arith}
use Rattle.policies.specs.Policies.{PolicyOf}
use Rattle.script_text.specs.declared.form.Form.{Form}
use Rattle.replay_report.specs.Playing.{Played}
use Rattle.replay_report.specs.declared.kind.Kind.{Kind}
use Rattle.replay_report.specs.Reports.{Progress, further, steps_from, steps_in, steps_of_last, steps_of_lines}
use Rattle.replay_report.specs.Reports.{steps_on}
use Rattle.replay_report.specs.Reports.{taken}
use Rattle.replay_report.proofs.Followed.{behind_feed, line_at}
use Rattle.replay_report.proofs.Splitting.{before, part_lines, part_rest, rest_at, whole_at}

-- a line takes no more than it and what follows it
pub line_within : (r : Result Played Kind) (used : ℕ) (at : Progress) (next : Progress → ℕ)
    → steps_in r ≤ steps_on r used at next
line_within (Err kind) used at next = omega arith
line_within (Ok played) used at next = omega arith

-- a line is there: its steps, and those of what follows it where it is done
pub whole_counts : (form : Form) (p : PolicyOf) (ending : List ℕ → Progress
    → ℕ) (at : Progress) (line bytes more : List ℕ)
    → before bytes < length bytes
    → steps_from form p ending at line (bytes ++ more)
    ≡ steps_on (taken form p at (line_at line bytes) (length (line_at line bytes) + 1))
    (length (line_at line bytes) + 1)
    at (λ next. steps_from form p ending next [] (behind_feed bytes ++ more))
whole_counts form p ending at line bytes more h =
    (λ i. steps_of_lines form p (ending (rest_at line bytes more h i)) at (whole_at line bytes more h i))

-- it is done: its steps and those of the rest are those of all
pub whole_sums : (form : Form) (p : PolicyOf) (ending : List ℕ → Progress
    → ℕ) (at : Progress) (line bytes more : List ℕ)
    (played : Played) → before bytes < length bytes
    → taken form p at (line_at line bytes) (length (line_at line bytes) + 1) ≡ Ok played
    → played.steps
    + steps_from form p ending (further (length (line_at line bytes) + 1) at played.stand) []
    (behind_feed bytes ++ more)
    ≡ steps_from form p ending at line (bytes ++ more)
whole_sums form p ending at line bytes more played h e =
    sym (whole_counts form p ending at line bytes more h
    ∙ ap (λ r. steps_on r (length (line_at line bytes) + 1) at
    (λ next. steps_from form p ending next [] (behind_feed bytes ++ more))) e)

-- and whether it is done or not, its steps are within those of all
pub whole_within : (form : Form) (p : PolicyOf) (ending : List ℕ → Progress
    → ℕ) (at : Progress) (line bytes more : List ℕ)
    → before bytes < length bytes
    → steps_in (taken form p at (line_at line bytes) (length (line_at line bytes) + 1))
    ≤ steps_from form p ending at line (bytes ++ more)
whole_within form p ending at line bytes more h =
    subst (λ n. steps_in (taken form p at (line_at line bytes) (length (line_at line bytes) + 1)) ≤ n)
    (sym (whole_counts form p ending at line bytes more h))
    (line_within (taken form p at (line_at line bytes) (length (line_at line bytes) + 1))
    (length (line_at line bytes) + 1)
    at (λ next. steps_from form p ending next [] (behind_feed bytes ++ more)))

-- a part of a line is there
pub part_counts : (form : Form) (p : PolicyOf) (ending : List ℕ → Progress
    → ℕ) (at : Progress) (line bytes more : List ℕ)
    → length bytes ≤ before bytes
    → steps_from form p ending at (line ++ bytes) more ≡ steps_from form p ending at line (bytes ++ more)
part_counts form p ending at line bytes more h =
    sym (λ i. steps_of_lines form p (ending (part_rest line bytes more h i)) at (part_lines line bytes more h i))

-- the script ends behind a line without a line feed
pub last_counts : (form : Form) (p : PolicyOf) (at : Progress) (line : List ℕ) → 0 < length line
    → steps_in (taken form p at line (length line)) ≡ steps_from form p (steps_of_last form p) at line []
last_counts form p at [] some = absurd (omega arith)
last_counts form p at (byte ∷ line) some = refl
