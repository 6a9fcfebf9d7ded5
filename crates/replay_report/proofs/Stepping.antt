-- One line after the other, and what is told in the end.
use Rattle.std.proofs.Common.{◌≡◌, ◌≤◌, ◌<◌, ◌∙◌, ℕ, zero, suc, ◌+◌, List, [], ◌∷◌, Option, Some, None, Result, Ok, Err}
use Rattle.std.specs.Prelude.{IfOk}
use Rattle.std.specs.Result.{IsErr}
use Rattle.std.proofs.Common.{ap, arith, length, length-append, refl, subst, sym}
use Rattle.made_script.specs.Drawing.{after, start as start_number}
use Rattle.made_script.specs.Script.{lines_behind, made, opening}
use Rattle.made_script.specs.declared.summary.Summary.{Summary}
use Rattle.policies.specs.Policies.{PolicyOf}
use Rattle.policies.specs.declared.fault.PolicyFault.{PolicyFault}
use Rattle.replay_report.specs.Players.{Takes, form_of, plan_of, progress_of, reported, rules_at}
use Rattle.replay_report.specs.Playing.{Played}
use Rattle.replay_report.specs.Reports.{Progress, further, start, steps_in, taken}
use Rattle.replay_report.specs.declared.kind.Kind.{Kind}
use Rattle.replay_report.specs.declared.player.Player.{Player}
use Rattle.script_text.specs.declared.form.Form.{Form}
use Rattle.script_text.specs.declared.form.Form.TheVariants.{Replay}
use Rattle.replay_report.specs.Bench.{IsBench, bench_read}
use Rattle.replay_report.specs.MadeCounts.{counted, counted_unless, nothing}
use Rattle.replay_report.specs.Making.{Stepped, Tally, after_line, after_lines, first, line_steps, lines_steps, made_of}
use Rattle.replay_report.specs.Making.{made_steps, script_steps, steps_over, summary_in, summary_over, tally_of}
use Rattle.replay_report.specs.Making.{with_line}
use Rattle.replay_report.specs.declared.made_counts.Counts.{Counts}

-- after an error nothing is owed of the value
pub unowed : {T E : Type 0} (r : Result T E) (P : T → Type 0) → IsErr r → IfOk r P
unowed (Ok x) P never = cc
unowed (Err e) P err = tt

tally_same : (a b : Progress) (m n : Counts) → a ≡ b → m ≡ n
    → ◌≡◌ {A = Tally} (record { progress = a; counts = m }) (record { progress = b; counts = n })
tally_same a b m n e f =
    let with_progress : Progress → Tally = λ x. record { progress = x; counts = m } in
    let with_counts : Counts → Tally = λ y. record { progress = b; counts = y } in
    ap with_progress e ∙ ap with_counts f

-- ---- one line

-- how many bytes of a script a line takes
pub used_some : (k n : ℕ) → k ≡ n + 1 → 1 ≤ k
used_some k n used = omega (arith, used)

pub used_within : (k n : ℕ) → k ≡ n + 1 → k ≤ n + 1
used_within k n used = omega (arith, used)

step_of : (refused : Option Kind) (form : Form) (p : PolicyOf) (before after : Progress) (line old text : List ℕ)
    (used : ℕ)
    → form ≡ Replay → old ≡ [] → used ≡ length line + 1
    → Takes refused (taken form p before line used) used before after old text
    → Takes refused (taken Replay p before line (length line + 1)) (length line + 1) before after [] text
step_of refused form p before after line old text used replays silent long takes =
    let long_so = length line + 1 in
    subst (λ (w : List ℕ). Takes refused (taken Replay p before line long_so) long_so before after w text) silent
    (subst (λ (k : ℕ). Takes refused (taken Replay p before line k) k before after old text) long
    (subst (λ (f : Form). Takes refused (taken f p before line used) used before after old text) replays takes))

-- what a replay says of a line
pub stepped : {E : Type 0} (answer : Result (Option Kind) E) (old new : Player) (line : List ℕ) (used : ℕ)
    → form_of old ≡ Replay → reported old ≡ [] → used ≡ length line + 1
    → IfOk answer (λ refused. Takes refused (taken (form_of old) (plan_of old) (progress_of old) line used) used
    (progress_of old) (progress_of new) (reported old) (reported new))
    → IfOk answer (λ refused. Stepped refused old new line)
unfolding Stepped
stepped (Ok refused) old new line used replays silent long takes =
    step_of refused (form_of old) (plan_of old) (progress_of old) (progress_of new) line (reported old) (reported new)
    used replays silent long takes
stepped (Err fault) old new line used replays silent long takes = tt

with_read : (refused : Option Kind) (did : Result Played Kind) (before after : Progress) (n : Counts)
    (line text : List ℕ)
    → Takes refused did (length line + 1) before after [] text
    → record { progress = after; counts = counted_unless refused n line text }
    ≡ with_line did line (record { progress = before; counts = n })
with_read None (Ok played) before after n line text takes =
    tally_same after (further (length line + 1) before played.stand) (counted n line text) (counted n line played.text)
    takes.0 (ap (counted n line) takes.1)
with_read None (Err kind) before after n line text never = absurd never
with_read (Some kind) (Ok played) before after n line text never = absurd never
with_read (Some kind) (Err other) before after n line text takes = tally_same after before n n takes.1 refl

-- a line was done or not, and what was reported of it was counted and cleared
pub line_counted : (refused : Option Kind) (old new after : Player) (n m : Counts) (line report : List ℕ)
    → Stepped refused old new line → report ≡ reported new → m ≡ counted_unless refused n line report
    → progress_of after ≡ progress_of new → tally_of after m ≡ after_line (plan_of old) (tally_of old n) line
unfolding Stepped after_line tally_of
line_counted refused old new after n m line report steps told counts stands =
    tally_same (progress_of after) (progress_of new) m (counted_unless refused n line (reported new)) stands
    (counts ∙ ap (counted_unless refused n line) told)
    ∙ with_read refused (taken Replay (plan_of old) (progress_of old) line (length line + 1))
    (progress_of old) (progress_of new) n line (reported new) steps

-- its steps, as they were counted
pub line_counts : (player : Player) (line : List ℕ) (used old new : ℕ) → form_of player ≡ Replay
    → used ≡ length line + 1
    → new ≤ old + steps_in (taken (form_of player) (plan_of player) (progress_of player) line used)
    → new ≤ old + line_steps (plan_of player) (progress_of player) line
unfolding line_steps
line_counts player line used old new replays long counted =
    let p = plan_of player in
    let at = progress_of player in
    subst (λ (k : ℕ). new ≤ old + steps_in (taken Replay p at line k)) long
    (subst (λ (f : Form). new ≤ old + steps_in (taken f p at line used)) replays counted)

-- ---- all lines

-- the next line of a script is done
pub line_on : (p q : PolicyOf) (t u : Tally) (line bytes : List ℕ) (lines rest : List (List ℕ))
    → lines ≡ line ∷ rest → bytes ≡ line → u ≡ after_line p t bytes → q ≡ p
    → after_lines q u rest ≡ after_lines p t lines
unfolding after_lines
line_on p q t u line bytes lines rest next read done same = rw (next, done, same, read) refl

-- where a replay is, whatever was counted
pub progress_is : (player : Player) (n : Counts) → (tally_of player n).progress ≡ progress_of player
unfolding tally_of
progress_is player n = refl

-- the steps of a line, and of those that are left, are within those of all
pub line_within : (p : PolicyOf) (t : Tally) (at : Progress) (line bytes : List ℕ) (lines rest : List (List ℕ))
    (old new all : ℕ) → t.progress ≡ at → lines ≡ line ∷ rest → bytes ≡ line → new ≤ old + line_steps p at bytes
    → old + lines_steps p t lines ≤ all → new ≤ all
line_within p t at line bytes lines rest old new all stands next read counted within =
    let here : line_steps p at bytes ≡ line_steps p t.progress line =
    (λ i. line_steps p (sym stands i) (read i)) in
    let whole : lines_steps p t lines ≡ line_steps p t.progress line + lines_steps p (after_line p t line) rest =
    ap (lines_steps p t) next in
    omega (arith, here, whole, counted, within)

pub line_sums : (p q : PolicyOf) (t u : Tally) (at : Progress) (line bytes : List ℕ) (lines rest : List (List ℕ))
    (old new all : ℕ) → t.progress ≡ at → lines ≡ line ∷ rest → bytes ≡ line → u ≡ after_line p t bytes → q ≡ p
    → new ≤ old + line_steps p at bytes → old + lines_steps p t lines ≤ all → new + lines_steps q u rest ≤ all
line_sums p q t u at line bytes lines rest old new all stands next read done same counted within =
    let here : line_steps p at bytes ≡ line_steps p t.progress line =
    (λ i. line_steps p (sym stands i) (read i)) in
    let whole : lines_steps p t lines ≡ line_steps p t.progress line + lines_steps p (after_line p t line) rest =
    ap (lines_steps p t) next in
    let later : u ≡ after_line p t line = done ∙ ap (after_line p t) read in
    let left : lines_steps q u rest ≡ lines_steps p (after_line p t line) rest =
    (λ i. lines_steps (same i) (later i) rest) in
    omega (arith, here, whole, left, counted, within)

-- what was counted so far is within what is to be
pub so_far : (n old new all : ℕ) → new ≤ old → old + n ≤ all → new ≤ all
so_far n old new all a b = omega (arith, a, b)

pub none_counted : (n old : ℕ) → old ≤ old + n
none_counted n old = omega arith

pub shorter : (line : List ℕ) (lines rest : List (List ℕ)) → lines ≡ line ∷ rest → length rest < length lines
shorter line lines rest next = rw next (omega arith)

-- none is left
pub at_end : (p : PolicyOf) (t : Tally) (lines : List (List ℕ)) → lines ≡ [] → t ≡ after_lines p t lines
unfolding after_lines
at_end p t lines none = rw none refl

-- ---- the script

behind_long : (done x n : ℕ) → length (lines_behind done x n) ≡ n
behind_long done x zero = refl
behind_long done x (suc n) = ap suc (behind_long (done + 1) (after x) n)

-- three lines, and a line for each message
pub made_long : (seed n : ℕ) → length (made seed n) ≡ n + 3
made_long seed n =
    let x = start_number seed in
    let rest = behind_long 0 x n in
    omega (arith, length-append opening (lines_behind 0 x n), rest)

-- ---- what is told

-- a replay that begins
pub begun : {E : Type 0} (answer : Result Player E) (p : PolicyOf)
    → IfOk answer (λ player. progress_of player ≡ start p)
    → IfOk answer (λ player. tally_of player nothing ≡ first p)
unfolding tally_of first
begun (Ok player) p begins = tally_same (progress_of player) (start p) nothing nothing begins refl
begun (Err fault) p none = tt

pub counts_of : (player : Player) (n : Counts) (t : Tally) → tally_of player n ≡ t → n ≡ t.counts
unfolding tally_of
counts_of player n t all = ap (λ (u : Tally). u.counts) all

pub rules_told : (p q : PolicyOf) (player : Player) (n : Counts) (t : Tally) (rules : ℕ) → tally_of player n ≡ t
    → q ≡ p → rules ≡ rules_at q (progress_of player) → rules ≡ rules_at p t.progress
unfolding tally_of
rules_told p q player n t rules all same count =
    count
    ∙ ap (λ (r : PolicyOf). rules_at r (progress_of player)) same
    ∙ ap (λ (u : Tally). rules_at p u.progress) all

summary_same : (a b accepted given rules held sent put : ℕ) → a ≡ b → accepted ≡ given → rules ≡ held → sent ≡ put
    → ◌≡◌ {A = Summary} (record { lines = a; accepted = accepted; rules = rules; sent = sent })
    (record { lines = b; accepted = given; rules = held; sent = put })
summary_same a b accepted given rules held sent put e f g h = rw (e, f, g, h) refl

pub told_of : (p : PolicyOf) (n rules : ℕ) (counts : Counts) (t : Tally) (lines : List (List ℕ))
    → n ≡ length lines → counts ≡ t.counts → rules ≡ rules_at p t.progress → t ≡ after_lines p (first p) lines
    → record { lines = n; accepted = counts.accepted; rules = rules; sent = counts.sent } ≡ summary_in p lines
unfolding summary_in
told_of p n rules counts t lines long same count all =
    let whole = after_lines p (first p) lines in
    let counted_so : counts ≡ whole.counts = same ∙ ap (λ (u : Tally). u.counts) all in
    summary_same n (length lines) counts.accepted whole.counts.accepted rules (rules_at p whole.progress)
    counts.sent whole.counts.sent
    long (ap (λ (m : Counts). m.accepted) counted_so) (count ∙ ap (λ (u : Tally). rules_at p u.progress) all)
    (ap (λ (m : Counts). m.sent) counted_so)

pub summary_long : (p : PolicyOf) (lines : List (List ℕ)) → (summary_in p lines).lines ≡ length lines
unfolding summary_in
summary_long p lines = refl

over_policy : (read : Result PolicyOf PolicyFault) (p : PolicyOf) (lines : List (List ℕ)) → read ≡ Ok p
    → summary_in p lines ≡ summary_over read lines
over_policy read p lines e = rw e refl

pub of_bench : (p : PolicyOf) (seed n : ℕ) → IsBench p → summary_in p (made seed n) ≡ made_of seed n
unfolding made_of
of_bench p seed n bench = over_policy bench_read p (made seed n) bench

-- the steps of a script, as they were counted
pub script_counts : (p : PolicyOf) (t : Tally) (lines : List (List ℕ)) (old new : ℕ) → t ≡ first p
    → new ≤ old + lines_steps p t lines → new ≤ old + script_steps p lines
unfolding script_steps
script_counts p t lines old new begins counted =
    subst (λ (u : Tally). new ≤ old + lines_steps p u lines) begins counted

steps_over_policy : (read : Result PolicyOf PolicyFault) (p : PolicyOf) (lines : List (List ℕ)) → read ≡ Ok p
    → script_steps p lines ≡ steps_over read lines
steps_over_policy read p lines e = rw e refl

pub bench_counts : (p : PolicyOf) (seed n : ℕ) (lines : List (List ℕ)) (old new : ℕ) → IsBench p → lines ≡ made seed n
    → new ≤ old + script_steps p lines → new ≤ old + made_steps seed n
unfolding made_steps
bench_counts p seed n lines old new bench same counted =
    subst (λ (k : ℕ). new ≤ old + k)
    (ap (script_steps p) same ∙ steps_over_policy bench_read p (made seed n) bench) counted

pub lines_told : {E : Type 0} (answer : Result Summary E) (s : Summary) (n : ℕ) → IfOk answer (λ summary. summary ≡ s)
    → s.lines ≡ n → IfOk answer (λ summary. summary.lines ≡ n)
lines_told (Ok summary) s n same long = rw same long
lines_told (Err fault) s n none long = tt
