-- What a script gives, line by line, and what is told of it in the end.
use Rattle.std.specs.Prelude.{ℕ, ◌+◌, List, [], ◌∷◌, Option, Result, Ok, Err, fold, length}
use Rattle.made_script.specs.Script.{made}
use Rattle.made_script.specs.declared.summary.Summary.{Summary}
use Rattle.policies.specs.Policies.{PolicyOf}
use Rattle.policies.specs.declared.fault.PolicyFault.{PolicyFault}
use Rattle.replay_report.specs.Players.{Takes, plan_of, progress_of, reported, rules_at}
use Rattle.replay_report.specs.Playing.{Played}
use Rattle.replay_report.specs.Reports.{Progress, further, start, steps_in, taken}
use Rattle.replay_report.specs.declared.kind.Kind.{Kind}
use Rattle.replay_report.specs.declared.player.Player.{Player}
use Rattle.script_text.specs.declared.form.Form.TheVariants.{Replay}
use Rattle.replay_report.specs.Bench.{bench_read}
use Rattle.replay_report.specs.MadeCounts.{counted, nothing}
use Rattle.replay_report.specs.declared.made_counts.Counts.{Counts}

-- how far a script is, and what was counted of it so far
pub record Tally : Type 0 where
  pub progress : Progress
  pub counts : Counts

unfoldable pub tally_of : Player → Counts → Tally
tally_of player counts = record { progress = progress_of player; counts = counts }

-- a line was done, and what was reported of it is counted; a line that isn't done changes nothing
abbrev pub with_line : Result Played Kind → List ℕ → Tally → Tally
with_line (Ok played) line t = record {
  progress = further (length line + 1) t.progress played.stand;
  counts = counted t.counts line played.text;
}
with_line (Err kind) line t = t

unfoldable pub after_line : PolicyOf → Tally → List ℕ → Tally
after_line p t line = with_line (taken Replay p t.progress line (length line + 1)) line t

-- a replay that had nothing to report did a line, or didn't for some reason, and is as it was; this stays closed to
-- callers, whose proofs would else open the whole machine
unfoldable pub Stepped : Option Kind → Player → Player → List ℕ → Type 0
Stepped refused old new line =
    Takes refused (taken Replay (plan_of old) (progress_of old) line (length line + 1)) (length line + 1)
    (progress_of old) (progress_of new) [] (reported new)

-- lines are done one after the other
unfoldable pub after_lines : PolicyOf → Tally → List (List ℕ) → Tally
after_lines p t lines = fold (after_line p) t lines

-- how many steps of composition a line takes at most, and lines that are done one after the other
unfoldable pub line_steps : PolicyOf → Progress → List ℕ → ℕ
line_steps p at line = steps_in (taken Replay p at line (length line + 1))

abbrev pub lines_steps : PolicyOf → Tally → List (List ℕ) → ℕ
lines_steps p t [] = 0
lines_steps p t (line ∷ lines) = line_steps p t.progress line + lines_steps p (after_line p t line) lines

-- nothing was done
unfoldable pub first : PolicyOf → Tally
first p = record { progress = start p; counts = nothing }

-- what is told: how many lines there are, how many messages were accepted, how many composed rules the first virtual
-- switch has in the end, and how many messages were put to the switch
abbrev pub told : PolicyOf → ℕ → Tally → Summary
told p lines t = record {
  lines = lines;
  accepted = t.counts.accepted;
  rules = rules_at p t.progress;
  sent = t.counts.sent;
}

unfoldable pub summary_in : PolicyOf → List (List ℕ) → Summary
summary_in p lines = told p (length lines) (after_lines p (first p) lines)

-- how many steps of composition a script takes at most
unfoldable pub script_steps : PolicyOf → List (List ℕ) → ℕ
script_steps p lines = lines_steps p (first p) lines

-- over a policy that was read; were it none, nothing would be done
abbrev pub summary_over : Result PolicyOf PolicyFault → List (List ℕ) → Summary
summary_over (Ok p) lines = summary_in p lines
summary_over (Err fault) lines = record { lines = 0; accepted = 0; rules = 0; sent = 0 }

abbrev pub steps_over : Result PolicyOf PolicyFault → List (List ℕ) → ℕ
steps_over (Ok p) lines = script_steps p lines
steps_over (Err fault) lines = 0

-- what the script of a seed with so many messages gives over the policy of benchmarks, and how many steps of
-- composition it takes at most
unfoldable pub made_of : ℕ → ℕ → Summary
made_of seed count = summary_over bench_read (made seed count)

unfoldable pub made_steps : ℕ → ℕ → ℕ
made_steps seed count = steps_over bench_read (made seed count)
