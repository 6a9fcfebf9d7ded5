-- A report, read.
use Rattle.std.specs.Prelude.{◌≡◌, ℕ, List, [], ◌∷◌, ◌++◌, codes}
use Rattle.report_lines.specs.Lines.{as_line}
use Rattle.report_lines.specs.Reading.{messages_to}

-- lines of the audit, of three sessions, and one whose digits spell nothing
abbrev pub some_report : List ℕ
some_report =
    as_line (codes "down s1 why=again") ++ (as_line (codes "to app@v1 0a") ++ (as_line (codes "to s1 0100")
    ++ (as_line (codes "to s10 ff") ++ as_line (codes "to s1 0x"))))

pub record SomeReportIsRead : Type 0 where
  pub switch : messages_to (codes "s1") some_report ≡ (1 ∷ 0 ∷ []) ∷ []
  pub longer : messages_to (codes "s10") some_report ≡ (255 ∷ []) ∷ []
  pub member : messages_to (codes "app@v1") some_report ≡ (10 ∷ []) ∷ []
  pub nobody : messages_to (codes "s2") some_report ≡ []
