-- The steps of composition of a script, as far as it was read.
use Rattle.std.proofs.Common.{◌≡◌, ◌<◌, ◌≤◌, ◌+◌, ◌==◌, ℕ, Bool, true, false, List, [], ◌∷◌, ◌++◌, Option, Some, None}
use Rattle.std.proofs.Common.{Result, Ok, Err}
use Rattle.std.proofs.Common.{length, sym, ap, ◌∙◌, subst, refl, arith, le_refl}
use Rattle.std.proofs.lemmas.List.{append-nil}
use Rattle.std.specs.Prelude.{if◌then◌else◌}
use Rattle.policies.specs.Policies.{PolicyOf}
use Rattle.replay_report.specs.Playing.{Played}
use Rattle.replay_report.specs.Reports.{Progress, cut_report_steps, further, no_steps, report_steps, start, steps_from}
use Rattle.replay_report.specs.Reports.{steps_in}
use Rattle.replay_report.specs.Reports.{steps_of_last, steps_of_lines, steps_on, taken, unfinished, whole_lines}
use Rattle.replay_report.specs.declared.kind.Kind.{Kind}
use Rattle.replay_report.proofs.Followed.{line_at}
use Rattle.replay_report.proofs.Summing.{whole_sums, whole_within}
use Rattle.script_text.specs.declared.form.Form.{Form}
use Rattle.covisor_proxy.specs.Chunks.{GoesOn, LinesOf}
use Rattle.covisor_proxy.specs.Outcomes.{Counts, Moment}
use Rattle.covisor_proxy.specs.declared.lines.Taken.TheVariants.{Whole}

-- ---- numbers

least : (n : ℕ) → 0 ≤ n
least n = omega arith

more_before : (n a b : ℕ) → a ≤ b → n + a ≤ n + b
more_before n a b h = omega (arith, h)

-- no more than before
pub still : (steps before more : ℕ) → steps ≡ before → steps ≤ before + more
still steps before more e = omega (arith, e)

-- no more than what is at most this
pub at_most : (steps before more most : ℕ) → steps ≤ before + more → more ≤ most → steps ≤ before + most
at_most steps before more most a b = omega (arith, a, b)

pub none-counted : (n : ℕ) (old new : Moment) → new.steps ≡ old.steps → Counts n old new
none-counted n old new e = still new.steps old.steps n e

pub any-counted : (n : ℕ) (old new : Moment) → Counts 0 old new → Counts n old new
any-counted n old new e = at_most new.steps old.steps 0 n e (least n)

-- ---- a line

-- what follows takes less
on_less : (r : Result Played Kind) (used : ℕ) (at : Progress) (f g : Progress → ℕ) → ((x : Progress) → f x ≤ g x)
    → steps_on r used at f ≤ steps_on r used at g
on_less (Err kind) used at f g h = le_refl 0
on_less (Ok played) used at f g h =
    more_before played.steps (f (further used at played.stand)) (g (further used at played.stand))
    (h (further used at played.stand))

-- a line whose line feed is there takes at most what the script takes from it on
pub line-most : (form : Form) (p : PolicyOf) (ending : List ℕ → Progress
    → ℕ) (at : Progress) (lines next : LinesOf) (rest : List ℕ) → GoesOn Whole lines next
    → steps_in (taken form p at next.line (length next.line + 1)) ≤ steps_from form p ending at lines.line
    (lines.unread ++ rest)
line-most form p ending at lines next rest g =
    subst (λ (x : List ℕ). steps_in (taken form p at x (length x + 1)) ≤ steps_from form p ending at lines.line
    (lines.unread ++ rest)) (sym g.1)
    (whole_within form p ending at lines.line lines.unread rest g.0)

-- it is done: what follows takes the others
pub line-done : (form : Form) (p : PolicyOf) (ending : List ℕ → Progress
    → ℕ) (at : Progress) (lines next : LinesOf) (rest : List ℕ) (played : Played)
    → GoesOn Whole lines next → taken form p at next.line (length next.line + 1) ≡ Ok played
    → played.steps + steps_from form p ending (further (length next.line + 1) at played.stand) [] (next.unread ++ rest)
    ≡ steps_from form p ending at lines.line (lines.unread ++ rest)
line-done form p ending at lines next rest played g t =
    subst (λ (x : List ℕ). taken form p at x (length x + 1) ≡ Ok played
    → played.steps + steps_from form p ending (further (length x + 1) at played.stand) [] (next.unread ++ rest)
    ≡ steps_from form p ending at lines.line (lines.unread ++ rest))
    (sym g.1)
    (λ e. ap (λ (x : List ℕ). played.steps + steps_from form p ending
    (further (length (line_at lines.line lines.unread) + 1) at played.stand) [] (x ++ rest)) g.2
    ∙ whole_sums form p ending at lines.line lines.unread rest played g.0 e)
    t

-- ---- a script

pub steps-are : (form : Form) (p : PolicyOf) (script : List ℕ)
    → report_steps form p script ≡ steps_from form p (steps_of_last form p) (start p) [] script
unfolding report_steps
steps-are form p script = refl

pub cut-steps-are : (form : Form) (p : PolicyOf) (read : List ℕ)
    → cut_report_steps form p read ≡ steps_from form p no_steps (start p) [] read
unfolding cut_report_steps
cut-steps-are form p read = refl

-- the whole lines of what was read take at most what the script takes
cut_by : (b : Bool) (form : Form) (p : PolicyOf) (ending : List ℕ → Progress
    → ℕ) (at : Progress) (line next bytes rest : List ℕ)
    → ((x : Progress) → steps_from form p no_steps x [] bytes ≤ steps_from form p ending x [] (bytes ++ rest))
    → steps_from form p no_steps at next bytes ≤ steps_from form p ending at next (bytes ++ rest)
    → steps_of_lines form p (no_steps (if b then unfinished [] bytes else unfinished next bytes)) at
    (if b then line ∷ whole_lines [] bytes else whole_lines next bytes)
    ≤ steps_of_lines form p (ending (if b then unfinished [] (bytes ++ rest) else unfinished next (bytes ++ rest))) at
    (if b then line ∷ whole_lines [] (bytes ++ rest) else whole_lines next (bytes ++ rest))
cut_by true form p ending at line next bytes rest h later =
    on_less (taken form p at line (length line + 1)) (length line + 1) at
    (λ x. steps_from form p no_steps x [] bytes) (λ x. steps_from form p ending x [] (bytes ++ rest)) h
cut_by false form p ending at line next bytes rest h later = later

cut_from : (form : Form) (p : PolicyOf) (ending : List ℕ → Progress → ℕ) (at : Progress) (line read rest : List ℕ)
    → steps_from form p no_steps at line read ≤ steps_from form p ending at line (read ++ rest)
cut_from form p ending at line [] rest = least (steps_from form p ending at line rest)
cut_from form p ending at line (byte ∷ bytes) rest =
    cut_by (byte == 10) form p ending at line (line ++ byte ∷ []) bytes rest
    (λ x. cut_from form p ending x [] bytes rest) (cut_from form p ending at (line ++ byte ∷ []) bytes rest)

pub cut-most : (form : Form) (p : PolicyOf) (read rest : List ℕ)
    → cut_report_steps form p read ≤ report_steps form p (read ++ rest)
unfolding cut_report_steps report_steps
cut-most form p read rest = cut_from form p (steps_of_last form p) (start p) [] read rest

pub cut-whole : (form : Form) (p : PolicyOf) (read : List ℕ) → cut_report_steps form p read ≤ report_steps form p read
cut-whole form p read =
    subst (λ (x : List ℕ). cut_report_steps form p read ≤ report_steps form p x) (append-nil read)
    (cut-most form p read [])
