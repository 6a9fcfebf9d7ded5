-- What follows of a run, in plain sentences.
use Rattle.std.specs.Prelude.{◌≡◌, ◌≢◌, ◌≤◌, ◌+◌, ◌⊎◌, ⊤, ℕ, true, List, [], ◌∷◌, Option, Some, None, Result, Ok, Err}
use Rattle.std.specs.Prelude.{length}
use Rattle.outside.specs.Outside.{Rose}
use Rattle.outside.specs.declared.files.FileFault.{FileFault}
use Rattle.outside.specs.declared.files.FileFault.TheVariants.{Memory}
use Rattle.outside.specs.declared.files.MemFile.{MemFile}
use Rattle.events.specs.declared.event.Event.{Event}
use Rattle.events.specs.declared.event.Reply.{Reply}
use Rattle.event_composes.specs.Meanings.{StateData}
use Rattle.policies.specs.Policies.{PolicyOf}
use Rattle.policies.specs.declared.fault.PolicyFault.{PolicyFault}
use Rattle.policy_lock.specs.declared.machine.Machine.{Ghosts}
use Rattle.replay_report.specs.Playing.{Played}
use Rattle.replay_report.specs.Reports.{Progress, further, start, taken, whole_lines}
use Rattle.script_text.specs.declared.form.Form.{Form}
use Rattle.script_text.specs.declared.form.Form.TheVariants as forms
use Rattle.covisor_proxy.specs.Asked.{report_for, stated, steps_for}
use Rattle.covisor_proxy.specs.BuiltIn.{built_in_read}
use Rattle.covisor_proxy.specs.Chunks.{IsAtEnd}
use Rattle.covisor_proxy.specs.Opening.{AnswersTo, Holds}
use Rattle.covisor_proxy.specs.Outcomes.{IsScript}
use Rattle.covisor_proxy.specs.Outside.{NeverFail, Outside}
use Rattle.covisor_proxy.specs.Runs.{Runs, has_script, name_in}
use Rattle.command_line.specs.declared.command.Command.{Command}
use Rattle.command_line.specs.declared.command.Command.TheVariants.{Replay, ReplayPolicy, ExplainPolicy, Serve, Make}

-- the file of the command states no policy: it is refused for another cause than memory
pub record IsRefused (command : Option Command) (files : Option (List MemFile)) : Type 0 where
  pub name : List ℕ
  pub bytes : List ℕ
  pub fault : PolicyFault
  pub named : name_in command ≡ Some name
  pub held : Holds files name (Some bytes)
  pub refused : stated bytes ≡ Err fault

-- there is no such file
pub record IsAbsent (command : Option Command) (files : Option (List MemFile)) : Type 0 where
  pub name : List ℕ
  pub named : name_in command ≡ Some name
  pub absent : Holds files name None

-- whole lines are done, one after the other
abbrev pub AreDone : Form → PolicyOf → Progress → List (List ℕ) → Type 0
AreDone form p at [] = ⊤
AreDone form p at (line ∷ lines) =
    (played : Played) × (taken form p at line (length line + 1) ≡ Ok played)
    × AreDone form p (further (length line + 1) at played.stand) lines

-- the policy over which a command does a script, of what the files answered, and the form of its lines
abbrev pub IsOver : Option Command → Result (List ℕ) FileFault → Form → PolicyOf → Type 0
IsOver (Some Replay) file form p = (form ≡ forms.Replay) × (built_in_read ≡ Ok p)
IsOver (Some (ReplayPolicy name)) (Ok bytes) form p = (form ≡ forms.Replay) × (stated bytes ≡ Ok p)
IsOver (Some (ReplayPolicy name)) (Err fault) form p = ⊥
IsOver (Some (ExplainPolicy name)) (Ok bytes) form p = (form ≡ forms.Explain) × (stated bytes ≡ Ok p)
IsOver (Some (ExplainPolicy name)) (Err fault) form p = ⊥
IsOver (Some (Serve name)) file form p = ⊥
IsOver (Some (Make seed count)) file form p = ⊥
IsOver None file form p = ⊥

-- each line that was read whole is done
pub record IsDoneSoFar (command : Option Command) (file : Result (List ℕ) FileFault) (read : List ℕ) : Type 0 where
  pub form : Form
  pub policy : PolicyOf
  pub over : IsOver command file form policy
  pub done : AreDone form policy (start policy) (whole_lines [] read)

-- the steps of composition that were counted are at most those of the command, over what the files answered and the
-- whole script
pub record IsCounted (before after : Outside) (command : Option Command) : Type 0 where
  pub file : Result (List ℕ) FileFault
  pub script : List ℕ
  pub answers : AnswersTo command before.files before.fails after.fails file
  pub is : IsScript before.now.left script
  pub most : after.now.steps ≤ before.now.steps + steps_for command file script

-- no count rose, and no dial ever fails
pub record IsQuiet (before after : Outside) : Type 0 where
  pub files : Rose before.fails after.fails → ⊥
  pub links : Rose before.dials after.dials → ⊥
  pub spawns : Rose before.spawns after.spawns → ⊥
  pub reads : Rose before.now.reads after.now.reads → ⊥
  pub writes : Rose before.now.writes after.now.writes → ⊥
  pub dials : NeverFail before

-- the report of the script has status 0 over whatever the files answer but want of memory
abbrev pub AllDone : Outside → Outside → Option Command → Type 0
AllDone before after command =
    (file : Result (List ℕ) FileFault) (script : List ℕ) → file ≢ Err Memory
    → AnswersTo command before.files before.fails after.fails file
    → IsScript before.now.left script → (report_for command file script).status ≡ 0

module _ {M C : Type 0} (g : Ghosts M Event Reply StateData) (may : C → ℕ → Type 0) where
  -- what holds of every run
  abbrev pub OfRuns : (Outside → Outside → ℕ → Option Command → Type 0) → Type 0
  OfRuns Holds =
      (clock : C) (before after : Outside) (answer : ℕ) (command : Option Command)
      → Runs g (may clock) before after answer command → Holds before after answer command

  -- with 3 the file of the policy states none
  abbrev pub ThreeIsRefused : Type 0
  ThreeIsRefused = OfRuns (λ before after answer command. answer ≡ 3 → IsRefused command before.files)

  -- with 7 it isn't there
  abbrev pub SevenIsAbsent : Type 0
  SevenIsAbsent = OfRuns (λ before after answer command. answer ≡ 7 → IsAbsent command before.files)

  -- with 5 a read of the file failed, or one of the script, of which each line before is done
  abbrev pub FiveOnlyWhereAllWasDone : Type 0
  FiveOnlyWhereAllWasDone =
      (clock : C) (before after : Outside) (answer : ℕ) (command : Option Command)
      (run : Runs g (may clock) before after answer command) → answer ≡ 5
      → Rose before.fails after.fails
      ⊎ (Rose before.now.reads after.now.reads × IsDoneSoFar command run.file run.script)

  -- with 6 a write failed
  abbrev pub SixIsUnwritten : Type 0
  SixIsUnwritten = OfRuns (λ before after answer command. answer ≡ 6 → Rose before.now.writes after.now.writes)

  -- with 8 a dial failed, unless one is such that may fail
  abbrev pub EightIsUndialled : Type 0
  EightIsUndialled =
      OfRuns (λ before after answer command. answer ≡ 8 → NeverFail before → Rose before.dials after.dials)

  -- with 9 the works could not be run
  abbrev pub NineIsUnspawned : Type 0
  NineIsUnspawned = OfRuns (λ before after answer command. answer ≡ 9 → Rose before.spawns after.spawns)

  -- with 0 the script was read to its end
  abbrev pub ZeroReadsAll : Type 0
  ZeroReadsAll =
      OfRuns (λ before after answer command. answer ≡ 0 → has_script command ≡ true → IsAtEnd after.now.left)

  -- where nothing fails, and the report has status 0, the answer is 0, or memory was wanted
  abbrev pub QuietIsDone : Type 0
  QuietIsDone =
      OfRuns (λ before after answer command. IsQuiet before after → AllDone before after command
      → (answer ≡ 0) ⊎ (answer ≡ 10))

  -- the steps are counted, whatever the answer is
  abbrev pub StepsAreFew : Type 0
  StepsAreFew = OfRuns (λ before after answer command. IsCounted before after command)
