-- How a run ends that serves no policy: what was read, what was written and what was counted with each status.
use Rattle.std.specs.Prelude.{◌≡◌, ◌<◌, ◌≤◌, ◌+◌, ◌⊎◌, ⊤, ℕ, List, ◌++◌, Option, Some, None, length, take}
use Rattle.outside.specs.Outside.{Rose}
use Rattle.replay_report.specs.Reports.{Report}
use Rattle.covisor_proxy.specs.Asked.{Given}
use Rattle.covisor_proxy.specs.Chunks.{Gave}
use Rattle.covisor_proxy.specs.Written.{Appends, AppendsShort, AppendsSome}
use Rattle.covisor_proxy.specs.declared.status.Status.{Status}
use Rattle.covisor_proxy.specs.declared.status.Status.TheVariants.{Done, Usage, Policy, Line, Read, Write, Absent, Link}
use Rattle.covisor_proxy.specs.declared.status.Status.TheVariants.{Spawn, Memory}

-- what a replay reads, writes and counts, at a moment: what is left of the script and what was written, where these are
-- told, how many reads and writes failed, and how many steps of composition were counted
pub record Moment : Type 0 where
  pub left : Option (List ℕ)
  pub reads : ℕ
  pub held : Option (List ℕ)
  pub writes : ℕ
  pub steps : ℕ

abbrev pub moment : Option (List ℕ) → ℕ → Option (List ℕ) → ℕ → ℕ → Moment
moment left reads held writes steps = record { left = left; reads = reads; held = held; writes = writes; steps = steps }

-- at most so many steps were counted
abbrev pub Counts : ℕ → Moment → Moment → Type 0
Counts most old new = new.steps ≤ old.steps + most

-- all bytes of a report
abbrev pub bytes_of : Report → List ℕ
bytes_of r = r.told ++ r.last

-- a report is written, but for the end of its last line where a write of that failed
abbrev pub Tells : Report → Moment → Moment → Type 0
Tells r old new =
    Appends old.held new.held (bytes_of r)
    ⊎ (Rose old.writes new.writes
    × ((n : ℕ) × (n < length r.last) × Appends old.held new.held (r.told ++ take n r.last)))

-- a report isn't written whole: not what comes before its last line; or, where its status is 0, not all of it
abbrev pub IsCutShort : Report → Moment → Moment → Type 0
IsCutShort r old new =
    AppendsShort old.held new.held r.told ⊎ ((r.status ≡ 0) × AppendsShort old.held new.held (bytes_of r))

-- the script, where it is told
abbrev pub IsScript : Option (List ℕ) → List ℕ → Type 0
IsScript None script = ⊤
IsScript (Some left) script = left ≡ script

-- the script that a status speaks of, where it is told: where it could not be read on, what was read of it; else all
abbrev pub IsRead : Status → (left left' : Option (List ℕ)) → List ℕ → Type 0
IsRead Read left left' script = Gave left left' script
IsRead _ left left' script = IsScript left script

-- the report has this status, and is written
pub record Settles (code : ℕ) (r : Report) (old new : Moment) : Type 0 where
  pub status : r.status ≡ code
  pub tells : Tells r old new

-- the report has status 0, and is written whole; no read and no write failed
pub record Finishes (r : Report) (old new : Moment) : Type 0 where
  pub status : r.status ≡ 0
  pub written : Appends old.held new.held (bytes_of r)
  pub reads : new.reads ≡ old.reads
  pub writes : new.writes ≡ old.writes

-- a read failed, and the report that breaks off there is written, in which no line is refused
pub record BreaksOff (cut : Given) (old new : Moment) : Type 0 where
  pub fault : Rose old.reads new.reads
  pub status : cut.report.status ≡ 5
  pub tells : Tells cut.report old new
  pub counts : Counts cut.steps old new

-- how a run ends with a status, of what its script gives, and of what it gives where it can't be read further
abbrev pub Ends : Status → (whole cut : Given) → Moment → Moment → Type 0
Ends Done whole cut old new = Finishes whole.report old new
Ends Usage whole cut old new = Settles 2 whole.report old new
Ends Policy whole cut old new = Settles 3 whole.report old new
Ends Line whole cut old new = Settles 4 whole.report old new
Ends Read whole cut old new = Settles 5 whole.report old new ⊎ BreaksOff cut old new
Ends Write whole cut old new = Rose old.writes new.writes × IsCutShort whole.report old new
Ends Absent whole cut old new = Settles 7 whole.report old new
Ends Link whole cut old new = ⊥
Ends Spawn whole cut old new = ⊥
Ends Memory whole cut old new = AppendsSome old.held new.held (bytes_of whole.report)

-- a script was read, and so the run ended; no more steps were counted than the script takes
pub record Replayed (status : Status) (all cut : List ℕ → Given) (old new : Moment) : Type 0 where
  pub script : List ℕ
  pub reads : IsRead status old.left new.left script
  pub ends : Ends status (all script) (cut script) old new
  pub counts : Counts (all script).steps old new

-- the exit status
abbrev pub code_of : Status → ℕ
code_of Done = 0
code_of Usage = 2
code_of Policy = 3
code_of Line = 4
code_of Read = 5
code_of Write = 6
code_of Absent = 7
code_of Link = 8
code_of Spawn = 9
code_of Memory = 10
