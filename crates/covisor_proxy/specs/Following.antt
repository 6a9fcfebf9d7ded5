-- What only the proof keeps inside: how far a replay is with its script, its report and its steps of composition.
use Rattle.std.specs.Prelude.{◌≡◌, ◌<◌, ◌≤◌, ◌+◌, ⊤, ◌⊎◌, ℕ, Bool, false, List, [], ◌++◌, Option, Some, Result, Ok, Err}
use Rattle.std.specs.Prelude.{codes, length, take}
use Rattle.outside.specs.Outside.{Rose}
use Rattle.policies.specs.Policies.{PolicyOf}
use Rattle.replay_report.specs.Players.{Takes}
use Rattle.replay_report.specs.Playing.{Played}
use Rattle.replay_report.specs.Reports.{Progress, Report, after_text, ended, further, plays_from, plays_last, refused}
use Rattle.replay_report.specs.Reports.{start, steps_from}
use Rattle.replay_report.specs.Takings.{as_line}
use Rattle.replay_report.specs.declared.kind.Kind.{Kind}
use Rattle.replay_report.specs.declared.kind.Kind.TheVariants.{Long}
use Rattle.script_text.specs.declared.form.Form.{Form}
use Rattle.covisor_proxy.specs.Asked.{Given, cut_given_of, given_of}
use Rattle.covisor_proxy.specs.Chunks.{Gave, IsAtEnd, LinesOf}
use Rattle.covisor_proxy.specs.Outcomes.{Counts, IsScript, Moment, bytes_of}
use Rattle.covisor_proxy.specs.Written.{Appends, AppendsShort, AppendsSome, Writes}
use Rattle.covisor_proxy.specs.declared.status.Status.{Status}
use Rattle.covisor_proxy.specs.declared.status.Status.TheVariants as statuses
use Rattle.covisor_proxy.specs.declared.stop.Stop.{Stop}
use Rattle.covisor_proxy.specs.declared.stop.Stop.TheVariants.{Refused, Read, Write, Memory}

-- ---- how far a replay is

-- nothing was done yet; this stays closed to callers, whose proofs would else open the whole machine
unfoldable pub IsBegun : Progress → PolicyOf → Type 0
IsBegun at p = at ≡ start p

-- so much was read, written and counted, so much of the report waits: whatever follows in the script, and however it
-- ends, what was written, what waits, and the report from here on are the whole report, and the steps that were counted
-- and those from here on are at most those of the whole
pub record Follows (form : Form) (p : PolicyOf) (old new : Moment) (at : Progress) (lines : LinesOf)
    (waiting : List ℕ) : Type 0 where
  pub read : List ℕ
  pub written : List ℕ
  pub gave : Gave old.left new.left read
  pub appends : Appends old.held new.held written
  pub goes : (ending : List ℕ → Progress → Report) (rest : List ℕ)
      → after_text (written ++ waiting) (plays_from form p ending at lines.line (lines.unread ++ rest))
      ≡ plays_from form p ending (start p) [] (read ++ rest)
  pub counts : (ending : List ℕ → Progress → ℕ) (rest : List ℕ)
      → new.steps + steps_from form p ending at lines.line (lines.unread ++ rest)
      ≤ old.steps + steps_from form p ending (start p) [] (read ++ rest)

-- ---- where it ends

-- what was written and what waits are the script's report but for this end of it; no more steps were counted than the
-- script takes
pub record Comes (all : List ℕ → Given) (last : Report) (old new : Moment) (waiting : List ℕ) : Type 0 where
  pub script : List ℕ
  pub written : List ℕ
  pub is : IsScript old.left script
  pub appends : Appends old.held new.held written
  pub report : (all script).report ≡ after_text (written ++ waiting) last
  pub counts : Counts (all script).steps old new

-- the same of what was read, but for the last line
pub record Breaks (cut : List ℕ → Given) (old new : Moment) : Type 0 where
  pub read : List ℕ
  pub gave : Gave old.left new.left read
  pub appends : Appends old.held new.held (cut read).report.told
  pub last : (cut read).report.last ≡ as_line (codes "fault read")
  pub status : (cut read).report.status ≡ 5
  pub counts : Counts (cut read).steps old new

-- the beginning of the script's report was written
pub record Begins (all : List ℕ → Given) (old new : Moment) : Type 0 where
  pub script : List ℕ
  pub is : IsScript old.left script
  pub written : AppendsSome old.held new.held (bytes_of (all script).report)
  pub counts : Counts (all script).steps old new

-- and not even all that comes before its last line
pub record FallsShort (all : List ℕ → Given) (old new : Moment) : Type 0 where
  pub script : List ℕ
  pub is : IsScript old.left script
  pub short : AppendsShort old.held new.held (all script).report.told
  pub counts : Counts (all script).steps old new

-- a replay ended so: at the end of its script, at a line, at a read, at a write, or for want of memory
abbrev pub Reaches : Result (Unit {0}) Stop → Form → PolicyOf → Progress → List ℕ → Moment → Moment → Type 0
Reaches (Ok _) form p at waiting old new =
    Comes (given_of form p) (ended at) old new waiting × IsAtEnd new.left × (new.reads ≡ old.reads)
    × (new.writes ≡ old.writes)
Reaches (Err (Refused kind)) form p at waiting old new =
    Comes (given_of form p) (refused kind at) old new waiting × (new.writes ≡ old.writes)
Reaches (Err Read) form p at waiting old new =
    Breaks (cut_given_of form p) old new × Rose old.reads new.reads × (new.writes ≡ old.writes)
Reaches (Err Write) form p at waiting old new = Rose old.writes new.writes × FallsShort (given_of form p) old new
Reaches (Err Memory) form p at waiting old new = Begins (given_of form p) old new

-- ---- a line

-- a line isn't done, and nothing is other than it was; or memory was wanted
abbrev pub Leaves : Stop → Result Played Kind → ℕ → Progress → Progress → List ℕ → List ℕ → Type 0
Leaves (Refused kind) what used before after old new = Takes (Some kind) what used before after old new
Leaves Memory what used before after old new = ⊤
Leaves Read what used before after old new = ⊥
Leaves Write what used before after old new = ⊥

-- a line was done: what it does was reported, of which a part was written
pub record Does (what : Result Played Kind) (used : ℕ) (before after : Progress) (held held' : Option (List ℕ))
    (waiting waiting' : List ℕ) : Type 0 where
  pub played : Played
  pub written : List ℕ
  pub is : what ≡ Ok played
  pub progress : after ≡ further used before played.stand
  pub appends : Appends held held' written
  pub waits : written ++ waiting' ≡ waiting ++ played.text

-- a line whose line feed was read isn't done, or what it does can't be written, or memory was wanted
pub record Chokes (what : Result Played Kind) (held held' : Option (List ℕ)) (waiting : List ℕ) : Type 0 where
  pub played : Played
  pub is : what ≡ Ok played
  pub short : AppendsShort held held' (waiting ++ played.text)

abbrev pub Halts : Stop → Result Played Kind → Progress → Progress → (held held' : Option (List ℕ))
    → (faults faults' : ℕ) → List ℕ → List ℕ → Type 0
Halts (Refused kind) what before after held held' faults faults' waiting waiting' =
    (what ≡ Err kind) × (after ≡ before) × (held' ≡ held) × (faults' ≡ faults) × (waiting' ≡ waiting)
Halts Write what before after held held' faults faults' waiting waiting' = Rose faults faults'
    × Chokes what held held' waiting
Halts Memory what before after held held' faults faults' waiting waiting' = held' ≡ held
Halts Read what before after held held' faults faults' waiting waiting' = ⊥

-- what stands behind the last line feed was done
pub record Closes (form : Form) (p : PolicyOf) (line : List ℕ) (before after : Progress)
    (waiting waiting' : List ℕ) : Type 0 where
  pub text : List ℕ
  pub report : plays_from form p (plays_last form p) before line [] ≡ after_text text (ended after)
  pub waits : waiting' ≡ waiting ++ text

-- or it wasn't
abbrev pub ClosesNot : Stop → Form → PolicyOf → List ℕ → Progress → Progress → List ℕ → List ℕ → Type 0
ClosesNot (Refused kind) form p line before after waiting waiting' =
    (plays_from form p (plays_last form p) before line [] ≡ refused kind after) × (waiting' ≡ waiting)
ClosesNot Memory form p line before after waiting waiting' = ⊤
ClosesNot Read form p line before after waiting waiting' = ⊥
ClosesNot Write form p line before after waiting waiting' = ⊥

-- ---- reading on

-- what waited was written, and more of the script was read, or its end
pub record Reads (going : Bool) (old new : Moment) (lines lines' : LinesOf) (waiting waiting' : List ℕ) : Type 0 where
  pub appends : Appends old.held new.held waiting
  pub gave : Gave old.left new.left lines'.unread
  pub line : lines'.line ≡ lines.line
  pub waits : waiting' ≡ []
  pub reads : new.reads ≡ old.reads
  pub writes : new.writes ≡ old.writes
  pub at_end : going ≡ false → IsAtEnd new.left × (lines'.unread ≡ [])

-- the line is too long, or what waits can't be written, or the script can't be read on
abbrev pub ReadsNot : Stop → Moment → Moment → List ℕ → List ℕ → List ℕ → Type 0
ReadsNot (Refused kind) old new line waiting waiting' =
    (kind ≡ Long) × (140000 < length line) × (new ≡ old) × (waiting' ≡ waiting)
ReadsNot Write old new line waiting waiting' =
    Rose old.writes new.writes × AppendsShort old.held new.held waiting × (new.left ≡ old.left)
ReadsNot Read old new line waiting waiting' =
    Rose old.reads new.reads × Appends old.held new.held waiting × (new.left ≡ old.left) × (new.writes ≡ old.writes)
ReadsNot Memory old new line waiting waiting' = ⊥

-- ---- last lines

-- what waited and the last line were written, or the first of them up to where a write failed
abbrev pub EndsWith : Status → (held held' : Option (List ℕ)) → (faults faults' : ℕ) → List ℕ → List ℕ → Type 0
EndsWith statuses.Done held held' faults faults' waiting last =
    Appends held held' (waiting ++ last) × (faults' ≡ faults)
EndsWith statuses.Write held held' faults faults' waiting last =
    Rose faults faults' × AppendsShort held held' (waiting ++ last)
EndsWith statuses.Memory held held' faults faults' waiting last = held' ≡ held
EndsWith _ held held' faults faults' waiting last = ⊥

-- the same of a script that stops at a line; where a write of the last line failed, the status stays, and where one
-- before it did, that line isn't begun
abbrev pub StopsWith : Status → (held held' : Option (List ℕ)) → (faults faults' : ℕ) → List ℕ → List ℕ → Type 0
StopsWith statuses.Line held held' faults faults' waiting last =
    Appends held held' (waiting ++ last)
    ⊎ (Rose faults faults' × ((n : ℕ) × (n < length last) × Appends held held' (waiting ++ take n last)))
StopsWith statuses.Write held held' faults faults' waiting last =
    Rose faults faults' × AppendsShort held held' waiting
StopsWith statuses.Memory held held' faults faults' waiting last = held' ≡ held
StopsWith _ held held' faults faults' waiting last = ⊥

-- a last line stands alone, with its status; or memory was wanted
abbrev pub Alone : Status → Status → (held held' : Option (List ℕ)) → (faults faults' : ℕ) → List ℕ → Type 0
Alone status result held held' faults faults' line =
    ((result ≡ status) × Writes held held' faults faults' line) ⊎ ((result ≡ statuses.Memory) × (held' ≡ held))
