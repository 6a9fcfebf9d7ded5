-- A report as far as its script was read.
use Rattle.std.proofs.Common.{◌≡◌, ℕ, suc, ◌+◌, ◌<◌, ◌≤◌, ◌==◌, Bool, true, false, cond, nat_lt, List, [], ◌∷◌, ◌++◌}
use Rattle.std.proofs.Common.{Result, Ok, Err, length, take, drop, refl, sym, ap, subst, ◌∙◌, append_assoc, arith}
use Rattle.std.specs.Prelude.{if◌then◌else◌}
use Rattle.std.proofs.lemmas.Bool.Decides.{nat_tests}
use Rattle.std.proofs.lemmas.List.{length-append}
use Rattle.policies.specs.Policies.{PolicyOf}
use Rattle.script_text.specs.declared.form.Form.{Form}
use Rattle.replay_report.specs.Playing.{Played}
use Rattle.replay_report.specs.declared.kind.Kind.{Kind}
use Rattle.replay_report.specs.declared.kind.Kind.TheVariants.{Long}
use Rattle.replay_report.specs.Reports.{Progress, Report, after_text, ended, further, goes_on, plays, plays_from}
use Rattle.replay_report.specs.Reports.{plays_last, refused, taken, unfinished, whole_lines}
use Rattle.replay_report.proofs.Splitting.{before, part_lines, part_rest, rest_at, whole_at}

-- the line up to the first line feed
abbrev pub line_at : List ℕ → List ℕ → List ℕ
line_at line bytes = line ++ take (before bytes) bytes

-- what stands behind it
abbrev pub behind_feed : List ℕ → List ℕ
behind_feed bytes = drop (before bytes + 1) bytes

-- a line is there: the report goes on with what it does
pub whole_goes_on : (form : Form) (p : PolicyOf) (ending : List ℕ → Progress
    → Report) (at : Progress) (line bytes more : List ℕ) → before bytes < length bytes →
    plays_from form p ending at line (bytes ++ more)
    ≡ goes_on (taken form p at (line_at line bytes) (length (line_at line bytes) + 1)) (length (line_at line bytes) + 1)
    at (λ next. plays_from form p ending next [] (behind_feed bytes ++ more))
whole_goes_on form p ending at line bytes more h =
    (λ i. plays form p (ending (rest_at line bytes more h i)) at (whole_at line bytes more h i))

pub whole_done : (form : Form) (p : PolicyOf) (ending : List ℕ → Progress
    → Report) (at : Progress) (line bytes more : List ℕ) (played : Played) → before bytes < length bytes →
    taken form p at (line_at line bytes) (length (line_at line bytes) + 1) ≡ Ok played →
    after_text played.text (plays_from form p ending (further (length (line_at line bytes) + 1) at played.stand) []
    (behind_feed bytes ++ more)) ≡ plays_from form p ending at line (bytes ++ more)
whole_done form p ending at line bytes more played h e =
    sym (whole_goes_on form p ending at line bytes more h
    ∙ ap (λ r. goes_on r (length (line_at line bytes) + 1) at
    (λ next. plays_from form p ending next [] (behind_feed bytes ++ more))) e)

pub whole_refused : (form : Form) (p : PolicyOf) (ending : List ℕ → Progress
    → Report) (at : Progress) (line bytes more : List ℕ) (kind : Kind) → before bytes < length bytes →
    taken form p at (line_at line bytes) (length (line_at line bytes) + 1) ≡ Err kind →
    refused kind at ≡ plays_from form p ending at line (bytes ++ more)
whole_refused form p ending at line bytes more kind h e =
    sym (whole_goes_on form p ending at line bytes more h
    ∙ ap (λ r. goes_on r (length (line_at line bytes) + 1) at
    (λ next. plays_from form p ending next [] (behind_feed bytes ++ more))) e)

-- a part of a line is there
pub part_goes_on : (form : Form) (p : PolicyOf) (ending : List ℕ → Progress
    → Report) (at : Progress) (line bytes more : List ℕ) → length bytes ≤ before bytes →
    plays_from form p ending at (line ++ bytes) more ≡ plays_from form p ending at line (bytes ++ more)
part_goes_on form p ending at line bytes more h =
    sym (λ i. plays form p (ending (part_rest line bytes more h i)) at (part_lines line bytes more h i))

-- a line that is too long already
pub long_taken : (form : Form) (p : PolicyOf) (at : Progress) (line : List ℕ) (used : ℕ) → 140000 < length line
    → taken form p at line used ≡ Err Long
unfolding taken
long_taken form p at line used h =
    let e : nat_lt 140000 (length line) ≡ true = grind (arith, nat_tests) in
    rw e refl

long_last : (form : Form) (p : PolicyOf) (at : Progress) (line : List ℕ) → 140000 < length line
    → plays_last form p line at ≡ refused Long at
long_last form p at [] h = absurd (omega arith)
long_last form p at (byte ∷ line) h =
    ap (λ r. goes_on r (length (byte ∷ line)) at ended) (long_taken form p at (byte ∷ line) (length (byte ∷ line)) h)

longer : (line : List ℕ) (byte : ℕ) → 140000 < length line → 140000 < length (line ++ byte ∷ [])
longer line byte h = omega (arith, length-append line (byte ∷ []))

long_by : (b : Bool) (form : Form) (p : PolicyOf) (at : Progress) (line : List ℕ) (bytes next : List ℕ)
    → 140000 < length line →
    plays_from form p (plays_last form p) at next bytes ≡ refused Long at →
    plays form p (plays_last form p (if b then unfinished [] bytes else unfinished next bytes)) at
    (if b then line ∷ whole_lines [] bytes else whole_lines next bytes) ≡ refused Long at
long_by true form p at line bytes next h later =
    ap (λ r. goes_on r (length line + 1) at
    (λ at'. plays form p (plays_last form p (unfinished [] bytes)) at' (whole_lines [] bytes)))
    (long_taken form p at line (length line + 1) h)
long_by false form p at line bytes next h later = later

pub long_refused : (form : Form) (p : PolicyOf) (at : Progress) (line bytes : List ℕ) → 140000 < length line →
    refused Long at ≡ plays_from form p (plays_last form p) at line bytes
long_refused form p at line [] h = sym (long_last form p at line h)
long_refused form p at line (byte ∷ bytes) h =
    sym (long_by (byte == 10) form p at line bytes (line ++ byte ∷ []) h
    (sym (long_refused form p at (line ++ byte ∷ []) bytes (longer line byte h))))

-- the script ends behind a line without a line feed
pub last_done : (form : Form) (p : PolicyOf) (at : Progress) (line : List ℕ) (played : Played) → 0 < length line →
    taken form p at line (length line) ≡ Ok played →
    after_text played.text (ended (further (length line) at played.stand))
    ≡ plays_from form p (plays_last form p) at line []
last_done form p at [] played some e = absurd (omega arith)
last_done form p at (byte ∷ line) played some e = sym (ap (λ r. goes_on r (length (byte ∷ line)) at ended) e)

pub last_refused : (form : Form) (p : PolicyOf) (at : Progress) (line : List ℕ) (kind : Kind) → 0 < length line →
    taken form p at line (length line) ≡ Err kind →
    refused kind at ≡ plays_from form p (plays_last form p) at line []
last_refused form p at [] kind some e = absurd (omega arith)
last_refused form p at (byte ∷ line) kind some e = sym (ap (λ r. goes_on r (length (byte ∷ line)) at ended) e)

-- or behind a line feed
pub last_empty : (form : Form) (p : PolicyOf) (at : Progress) (line : List ℕ) → length line ≡ 0
    → ended at ≡ plays_from form p (plays_last form p) at line []
last_empty form p at [] e = refl
last_empty form p at (byte ∷ line) e = absurd (omega arith)
