-- The tables that the lines of a report make.
use Rattle.std.specs.Prelude.{◌≡◌, ℕ, List}
use Rattle.std.specs.List.{AllByRecursion}
use Rattle.agreement.specs.Agree.{Agree}
use Rattle.events.specs.declared.event.Event.{Event}
use Rattle.policies.specs.Policies.{PolicyOf}
use Rattle.policies.specs.Sound.{IsSound}
use Rattle.report_lines.specs.ReadBack.{IsPlain, Told, report_with, said_to}
use Rattle.report_lines.specs.Reading.{messages_to}
use Rattle.switch_meaning.specs.declared.entry.FlowEntry.{FlowEntry}
use Rattle.machine_meaning.specs.Events.{IsEvent}
use Rattle.machine_meaning.specs.Names.{switch_name}
use Rattle.machine_meaning.specs.Runs.{run_of}
use Rattle.machine_meaning.specs.Settings.{setting_of}
use Rattle.machine_meaning.specs.Sound.{HasNumbers}
use Rattle.written_tables.specs.Making.{made_by, put_since}

-- the lines of a report since a switch came up: of the lines of messages to the switch, those of what it was put since
-- then, each one once and in order; and any other lines
pub record IsReportSince (p : PolicyOf) (events : List Event) (n : ℕ) (told : List Told) : Type 0 where
  pub plain : AllByRecursion IsPlain told
  pub said : said_to (switch_name p n) told ≡ put_since p n events

-- the table that a switch makes of the text of a report, from any table
abbrev pub made_of_report : PolicyOf → ℕ → List ℕ → List FlowEntry → List FlowEntry
made_of_report p n report table = made_by (messages_to (switch_name p n) report) table

-- switches with the tables that a report's lines since they came up make, read of the report's text, do with each
-- packet what the policy says over the members' tables, whatever they had before
abbrev pub ReportedTablesAgree : Type 0
ReportedTablesAgree =
    (p : PolicyOf) → IsSound p → (events : List Event) → AllByRecursion IsEvent events → HasNumbers (run_of p events)
    → (reports : ℕ → List Told) → ((n : ℕ) → IsReportSince p events n (reports n)) → (tables : ℕ → List FlowEntry)
    → Agree (setting_of p (run_of p events)) (λ n. made_of_report p n (report_with (reports n)) (tables n))
