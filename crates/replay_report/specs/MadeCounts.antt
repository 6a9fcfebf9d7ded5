-- What is counted of the lines of a script and of their reports.
use Rattle.std.specs.Prelude.{ℕ, ◌+◌, ◌==◌, ◌&&◌, Bool, List, Option, Some, None, codes, count_by, nat_eq}
use Rattle.std.specs.Prelude.{if◌then◌else◌}
use Rattle.std.specs.List.{slice_split, starts_with}
use Rattle.replay_report.specs.declared.kind.Kind.{Kind}
use Rattle.replay_report.specs.declared.made_counts.Counts.{Counts}

-- a line begins so
abbrev pub begins : List ℕ → List ℕ → Bool
begins start line = starts_with nat_eq line start

-- how many lines of a text begin so; lines are parted by line feeds (10)
unfoldable pub lines_with : List ℕ → List ℕ → ℕ
lines_with start text = count_by (begins start) (slice_split (λ byte. byte == 10) text)

-- a session sent a message by this line, and no line of its report is that of a denial
unfoldable pub is_accepted : List ℕ → List ℕ → Bool
is_accepted line report = begins (codes "from ") line && (lines_with (codes "deny ") report == 0)

abbrev pub nothing : Counts
nothing = record { accepted = 0; sent = 0 }

-- a line and its report are counted: whether its message was accepted, and the messages that were put to the switch,
-- `s1`
unfoldable pub counted : Counts → List ℕ → List ℕ → Counts
counted n line report = record {
  accepted = n.accepted + (if is_accepted line report then 1 else 0);
  sent = n.sent + lines_with (codes "to s1 ") report;
}

-- the same of a line that is done, or isn't for some reason: then nothing is counted
abbrev pub counted_unless : Option Kind → Counts → List ℕ → List ℕ → Counts
counted_unless None n line report = counted n line report
counted_unless (Some kind) n line report = n
