-- What a replay reported since a switch came up.
use Rattle.std.specs.Prelude.{◌≡◌, ◌<◌, ◌^◌, ℕ, Bool, true, false, List, [], ◌∷◌, ◌++◌, fold, if◌then◌else◌}
use Rattle.std.specs.Prelude.{length, option_map}
use Rattle.std.specs.List.{AllByRecursion}
use Rattle.std.specs.Option.{option_map_or}
use Rattle.agreement.specs.Agree.{Agree}
use Rattle.policies.specs.Policies.{PolicyOf}
use Rattle.policies.specs.Sound.{IsSound}
use Rattle.script_text.specs.declared.line.Line.{Line}
use Rattle.script_text.specs.declared.line.Line.TheVariants as lines
use Rattle.switch_meaning.specs.declared.entry.FlowEntry.{FlowEntry}
use Rattle.machine_meaning.specs.Events.{AreBytes}
use Rattle.machine_meaning.specs.Sessions.{is_switch}
use Rattle.machine_meaning.specs.Settings.{setting_of}
use Rattle.machine_meaning.specs.Sound.{HasNumbers}
use Rattle.replay_report.specs.Playing.{Played, Stand, line_does}
use Rattle.replay_report.specs.Reports.{start}
use Rattle.replay_report.specs.Sessions.{session_named}
use Rattle.replay_report.specs.declared.sessions.Found.{Found}
use Rattle.written_tables.specs.Reports.{made_of_report}

-- a line brings the switch of a number up
abbrev pub brings : PolicyOf → ℕ → Line → Bool
brings p n (lines.Up name noarp) = is_switch n (option_map (λ (x : Found). x.who) (session_named p name))
brings p n line = false

-- where a replay stands after a line; one that isn't done changes nothing
abbrev pub after_line : PolicyOf → Stand → Line → Stand
after_line p stand line = option_map_or (λ (x : Played). x.stand) (line_does p line stand) stand

abbrev pub stand_of : PolicyOf → List Line → Stand
stand_of p lines = fold (after_line p) (start p).stand lines

-- what was reported since a switch last came up, with what one more line reports
abbrev pub report_more : PolicyOf → ℕ → Line → List ℕ → Played → List ℕ
report_more p n line report played = if brings p n line then played.text else report ++ played.text

abbrev pub report_after : PolicyOf → ℕ → Stand → List ℕ → Line → List ℕ
report_after p n stand report line = option_map_or (report_more p n line report) (line_does p line stand) report

abbrev pub report_from : PolicyOf → ℕ → Stand → List ℕ → List Line → List ℕ
report_from p n stand report [] = report
report_from p n stand report (line ∷ lines) =
    report_from p n (after_line p stand line) (report_after p n stand report line) lines

-- what lines report since the last of them that brought the switch up
abbrev pub reported_since : PolicyOf → ℕ → List Line → List ℕ
reported_since p n lines = report_from p n (start p).stand [] lines

-- the numbers of a line fit their types
abbrev pub IsLine : Line → Type 0
IsLine (lines.From name bytes) = AreBytes bytes
IsLine (lines.Tick second) = second < 2 ^ 64
IsLine (lines.Expr name text) = AreBytes text
IsLine line = Unit {0}

-- events number its virtual switches by 32 bits
abbrev pub HasFewVirtuals : PolicyOf → Type 0
HasFewVirtuals p = length p.virtuals < 2 ^ 32

-- after any lines of a script, switches with the tables that their `to` lines since they came up make, read of the
-- report's text, do with each packet what the policy says over the members' tables, whatever they had before
abbrev pub ReplayedTablesAgree : Type 0
ReplayedTablesAgree =
    (p : PolicyOf) → IsSound p → HasFewVirtuals p → (lines : List Line) → AllByRecursion IsLine lines
    → HasNumbers (stand_of p lines).state → (tables : ℕ → List FlowEntry)
    → Agree (setting_of p (stand_of p lines).state) (λ n. made_of_report p n (reported_since p n lines) (tables n))
