-- The report of a script, as one function of its bytes; and how many steps of composition it takes at most.
use Rattle.std.specs.Prelude.{◌≡◌, ℕ, ◌+◌, ◌==◌, List, [], ◌∷◌, ◌++◌, Option, Some, None, Result, Ok, Err, codes}
use Rattle.std.specs.Prelude.{decimal, length, map, nat_lt, if◌then◌else◌}
use Rattle.machine_meaning.specs.States.{opening}
use Rattle.policies.specs.Policies.{PolicyOf}
use Rattle.script_text.specs.Reading.{line_in}
use Rattle.script_text.specs.declared.fault.LineFault.{LineFault}
use Rattle.script_text.specs.declared.form.Form.{Form}
use Rattle.script_text.specs.declared.line.Line.{Line}
use Rattle.replay_report.specs.Kinds.{kind_of, kind_text}
use Rattle.replay_report.specs.Playing.{Played, Stand, line_does}
use Rattle.replay_report.specs.Sessions.{sessions_of}
use Rattle.replay_report.specs.Streams.{fresh}
use Rattle.replay_report.specs.Takings.{as_line}
use Rattle.replay_report.specs.declared.kind.Kind.{Kind}
use Rattle.replay_report.specs.declared.kind.Kind.TheVariants.{Unknown, Long, Size, Word}
use Rattle.replay_report.specs.declared.sessions.Named.{Named}
use Rattle.replay_report.specs.declared.streams.Stream.{Stream}

-- ---- lines

-- the lines of bytes that end with a line feed (10), behind the beginning of the first; and what stands behind the last
abbrev pub whole_lines : List ℕ → List ℕ → List (List ℕ)
whole_lines line [] = []
whole_lines line (byte ∷ bytes) =
    if byte == 10 then line ∷ whole_lines [] bytes else whole_lines (line ++ byte ∷ []) bytes

abbrev pub unfinished : List ℕ → List ℕ → List ℕ
unfinished line [] = line
unfinished line (byte ∷ bytes) = if byte == 10 then unfinished [] bytes else unfinished (line ++ byte ∷ []) bytes

-- ---- one line

-- how far a replay is: the lines that were done, their bytes, and where it stands
pub record Progress : Type 0 where
  pub number : ℕ
  pub size : ℕ
  pub stand : Stand

-- nothing was done, no session has sent anything
abbrev pub fresh_for : Named → Stream
fresh_for x = fresh

abbrev pub start : PolicyOf → Progress
start p = record { number = 0; size = 0; stand = record { state = opening p; streams = map fresh_for (sessions_of p) } }

-- what was read does
abbrev pub or_unknown : Option Played → Result Played Kind
or_unknown None = Err Unknown
or_unknown (Some played) = Ok played

abbrev pub or_word : Option Kind → Kind
or_word None = Word
or_word (Some kind) = kind

abbrev pub read_does : PolicyOf → Result Line LineFault → Stand → Result Played Kind
read_does p (Err fault) stand = Err (or_word (kind_of fault))
read_does p (Ok line) stand = or_unknown (line_does p line stand)

-- a line of at most 140,000 bytes that takes so many bytes of the script, which has at most 2^32 - 1: what it does, or
-- why it isn't done
unfoldable pub taken : Form → PolicyOf → Progress → List ℕ → ℕ → Result Played Kind
taken form p at line used =
    if nat_lt 140000 (length line) then Err Long
    else (if nat_lt 4294967295 (at.size + used) then Err Size else read_does p (line_in form line) at.stand)

-- ---- all lines

-- a report: its lines but the last one, the last one, and the status
pub record Report : Type 0 where
  pub told : List ℕ
  pub last : List ℕ
  pub status : ℕ

-- a text is reported before
abbrev pub after_text : List ℕ → Report → Report
after_text text r = record r { told = text ++ r.told }

abbrev pub lone : List ℕ → ℕ → Report
lone text status = record { told = []; last = as_line text; status = status }

-- a script that was read to its end, and one that can't be read further
abbrev pub end_text : ℕ → List ℕ
end_text lines = codes "end lines=" ++ decimal lines

abbrev pub ended : Progress → Report
ended at = lone (end_text at.number) 0

abbrev pub cut_off : Progress → Report
cut_off at = lone (codes "fault read") 5

-- a line that isn't done
abbrev pub refusal_text : ℕ → Kind → List ℕ
refusal_text number kind = codes "fault line=" ++ (decimal number ++ (codes " kind=" ++ kind_text kind))

abbrev pub refused : Kind → Progress → Report
refused kind at = lone (refusal_text (at.number + 1) kind) 4

-- a line was done
abbrev pub further : ℕ → Progress → Stand → Progress
further used at stand = record { number = at.number + 1; size = at.size + used; stand = stand }

abbrev pub goes_on : Result Played Kind → ℕ → Progress → (Progress → Report) → Report
goes_on (Err kind) used at next = refused kind at
goes_on (Ok played) used at next = after_text played.text (next (further used at played.stand))

-- whole lines, one after the other, and what follows them
abbrev pub plays : Form → PolicyOf → (Progress → Report) → Progress → List (List ℕ) → Report
plays form p ending at [] = ending at
plays form p ending at (line ∷ lines) =
    goes_on (taken form p at line (length line + 1)) (length line + 1) at (λ next. plays form p ending next lines)

-- a last line without a line feed, if it isn't empty
abbrev pub plays_last : Form → PolicyOf → List ℕ → Progress → Report
plays_last form p [] at = ended at
plays_last form p (byte ∷ line) at =
    goes_on (taken form p at (byte ∷ line) (length (byte ∷ line))) (length (byte ∷ line)) at ended

-- what follows the line so far
abbrev pub plays_from : Form → PolicyOf → (List ℕ → Progress → Report) → Progress → List ℕ → List ℕ → Report
plays_from form p ending at line bytes = plays form p (ending (unfinished line bytes)) at (whole_lines line bytes)

-- the report of a script
unfoldable pub report_of : Form → PolicyOf → List ℕ → Report
report_of form p script = plays_from form p (plays_last form p) (start p) [] script

-- the report of a script of which these bytes were read, and no more can be
abbrev pub cut_after : List ℕ → Progress → Report
cut_after rest at = cut_off at

unfoldable pub cut_report_of : Form → PolicyOf → List ℕ → Report
cut_report_of form p read = plays_from form p cut_after (start p) [] read

-- ---- how many steps of composition that takes at most

-- a line that isn't done takes none
abbrev pub steps_in : Result Played Kind → ℕ
steps_in (Err kind) = 0
steps_in (Ok played) = played.steps

-- a line, and what follows it where it is done
abbrev pub steps_on : Result Played Kind → ℕ → Progress → (Progress → ℕ) → ℕ
steps_on (Err kind) used at next = 0
steps_on (Ok played) used at next = played.steps + next (further used at played.stand)

-- whole lines, one after the other, and what follows them
abbrev pub steps_of_lines : Form → PolicyOf → (Progress → ℕ) → Progress → List (List ℕ) → ℕ
steps_of_lines form p ending at [] = ending at
steps_of_lines form p ending at (line ∷ lines) =
    steps_on (taken form p at line (length line + 1)) (length line + 1) at
    (λ next. steps_of_lines form p ending next lines)

-- a last line without a line feed, if it isn't empty
abbrev pub steps_of_last : Form → PolicyOf → List ℕ → Progress → ℕ
steps_of_last form p [] at = 0
steps_of_last form p (byte ∷ line) at = steps_in (taken form p at (byte ∷ line) (length (byte ∷ line)))

-- what follows the line so far
abbrev pub steps_from : Form → PolicyOf → (List ℕ → Progress → ℕ) → Progress → List ℕ → List ℕ → ℕ
steps_from form p ending at line bytes =
    steps_of_lines form p (ending (unfinished line bytes)) at (whole_lines line bytes)

-- a script
unfoldable pub report_steps : Form → PolicyOf → List ℕ → ℕ
report_steps form p script = steps_from form p (steps_of_last form p) (start p) [] script

-- a script of which these bytes were read, and no more can be
abbrev pub no_steps : List ℕ → Progress → ℕ
no_steps rest at = 0

unfoldable pub cut_report_steps : Form → PolicyOf → List ℕ → ℕ
cut_report_steps form p read = steps_from form p no_steps (start p) [] read
