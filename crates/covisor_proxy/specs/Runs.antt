-- What a run is: its status, why it comes, what was written, and what was counted.
use Rattle.std.specs.Prelude.{◌≡◌, ℕ, Bool, true, false, List, Option, Some, None, Result}
use Rattle.outside.specs.declared.files.FileFault.{FileFault}
use Rattle.outside.specs.declared.files.MemFile.{MemFile}
use Rattle.events.specs.declared.event.Event.{Event}
use Rattle.events.specs.declared.event.Reply.{Reply}
use Rattle.event_composes.specs.Meanings.{StateData}
use Rattle.policy_lock.specs.declared.machine.Machine.{Ghosts}
use Rattle.script_text.specs.declared.form.Form.{Form}
use Rattle.covisor_proxy.specs.Asked.{cut_given_for, cut_given_of, given_for, given_of, over_file, steps_for}
use Rattle.covisor_proxy.specs.Chunks.{IsAtEnd}
use Rattle.covisor_proxy.specs.Opening.{Answers, AnswersTo}
use Rattle.covisor_proxy.specs.Outcomes.{Counts, IsRead, Moment, Replayed, code_of}
use Rattle.covisor_proxy.specs.Outside.{Outside}
use Rattle.covisor_proxy.specs.Serving.{EndsFor, ServedFor, served_by}
use Rattle.covisor_proxy.specs.declared.status.Status.{Status}
use Rattle.covisor_proxy.specs.declared.status.Status.TheVariants.{Done}
use Rattle.command_line.specs.declared.command.Command.{Command}
use Rattle.command_line.specs.declared.command.Command.TheVariants.{Replay, ReplayPolicy, ExplainPolicy, Serve, Make}

-- the name of the policy file, if the command has one
abbrev pub name_in : Option Command → Option (List ℕ)
name_in None = None
name_in (Some Replay) = None
name_in (Some (ReplayPolicy name)) = Some name
name_in (Some (ExplainPolicy name)) = Some name
name_in (Some (Serve name)) = Some name
name_in (Some (Make seed count)) = None

-- the command has a script
abbrev pub has_script : Option Command → Bool
has_script None = false
has_script (Some Replay) = true
has_script (Some (ReplayPolicy name)) = true
has_script (Some (ExplainPolicy name)) = true
has_script (Some (Serve name)) = false
has_script (Some (Make seed count)) = false

-- so ended a replay over the policy of a file
abbrev pub EndsOver : Status → Form → List ℕ → Option (List MemFile) → (fails fails' : ℕ) → Moment → Moment → Type 0
EndsOver status form name files fails fails' old new =
    (file : Result (List ℕ) FileFault) × Answers files fails fails' name file
    × Replayed status (over_file given_of form name file) (over_file cut_given_of form name file) old new

-- a run of a command, from one moment to another: of a machine, and of a clock, which may answer some seconds
pub record Runs {M : Type 0} (g : Ghosts M Event Reply StateData) (may : ℕ → Type 0) (before after : Outside)
    (answer : ℕ) (command : Option Command) : Type 0 where
  -- the exit status
  pub status : Status
  pub code : answer ≡ code_of status
  -- what the files answered
  pub file : Result (List ℕ) FileFault
  pub answers : AnswersTo command before.files before.fails after.fails file
  -- the script, which is read to its end where all is done
  pub script : List ℕ
  pub reads : IsRead status before.now.left after.now.left script
  pub whole : status ≡ Done → has_script command ≡ true → IsAtEnd after.now.left
  -- what was written, and why the status is this
  pub ends :
      EndsFor (served_by command file) status (given_for command file script) (cut_given_for command file script)
      before.now after.now
  -- how a policy was served
  pub serves : ServedFor g may (served_by command file) status before after
  -- the steps of composition that were counted
  pub counts : Counts (steps_for command file script) before.now after.now
