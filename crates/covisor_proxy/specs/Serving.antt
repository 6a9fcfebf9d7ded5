-- How a run of `serve` ends.
use Rattle.std.specs.Prelude.{◌≡◌, ◌⊎◌, ⊤, ℕ, List, Option, Some, None, Result, Ok, Err, codes}
use Rattle.outside.specs.Outside.{Rose}
use Rattle.outside.specs.declared.files.FileFault.{FileFault}
use Rattle.outside.specs.declared.files.MemFile.{MemFile}
use Rattle.events.specs.declared.event.Event.{Event}
use Rattle.events.specs.declared.event.Reply.{Reply}
use Rattle.event_composes.specs.Meanings.{StateData}
use Rattle.policies.specs.Policies.{PolicyOf}
use Rattle.policies.specs.declared.fault.PolicyFault.{PolicyFault}
use Rattle.policy_lock.specs.declared.machine.Machine.{Ghosts}
use Rattle.policy_serving.specs.Served.{ServesPolicy}
use Rattle.replay_report.specs.Takings.{as_line}
use Rattle.script_text.specs.declared.form.Form.{Form}
use Rattle.serving.specs.declared.run.Served.{Served}
use Rattle.serving.specs.declared.run.Served.TheVariants as serveds
use Rattle.covisor_proxy.specs.Asked.{Given, Scripts, over_file, stated}
use Rattle.covisor_proxy.specs.Opening.{Answers}
use Rattle.covisor_proxy.specs.Outcomes.{Ends, Moment, Replayed}
use Rattle.covisor_proxy.specs.Outside.{NeverFail, Outside}
use Rattle.covisor_proxy.specs.Written.{Appends, AppendsShort, Writes}
use Rattle.covisor_proxy.specs.declared.status.Status.{Status}
use Rattle.covisor_proxy.specs.declared.status.Status.TheVariants.{Done, Usage, Policy, Line, Read, Write, Absent, Link}
use Rattle.covisor_proxy.specs.declared.status.Status.TheVariants.{Spawn, Memory}
use Rattle.command_line.specs.declared.command.Command.{Command}
use Rattle.command_line.specs.declared.command.Command.TheVariants as commands

-- the policy that bytes state, if they state one
abbrev pub accepted : Result PolicyOf PolicyFault → Option PolicyOf
accepted (Ok p) = Some p
accepted (Err fault) = None

-- the policy that a command serves, of what the files answered
abbrev pub served_by : Option Command → Result (List ℕ) FileFault → Option PolicyOf
served_by (Some (commands.Serve name)) (Ok bytes) = accepted (stated bytes)
served_by (Some (commands.Serve name)) (Err fault) = None
served_by (Some commands.Replay) file = None
served_by (Some (commands.ReplayPolicy name)) file = None
served_by (Some (commands.ExplainPolicy name)) file = None
served_by (Some (commands.Make seed count)) file = None
served_by None file = None

-- of a machine, and of a clock, which may answer some seconds
module _ {M : Type 0} (g : Ghosts M Event Reply StateData) (may : ℕ → Type 0) where
  -- the policy was served, and so much was held as its works had ended
  abbrev pub WasServed : PolicyOf → Served → Outside → Outside → Option (List ℕ) → Type 0
  WasServed p served before after held =
      ServesPolicy g before.told before.reliable may p before.now.held held before.dials after.dials served

  -- and then this became of a last line, behind what was held
  pub record ServesAndTells (p : PolicyOf) (served : Served) (Tells : Option (List ℕ) → Type 0)
      (before after : Outside) : Type 0 where
    pub between : Option (List ℕ)
    pub serves : WasServed p served before after between
    pub tells : Tells between

  -- an endpoint could not be dialled, or its dial failed, and this became of the line that tells it
  abbrev pub EndsUndialled : (Tells : Option (List ℕ) → List ℕ → Type 0) → PolicyOf → Outside → Outside → Type 0
  EndsUndialled Tells p before after =
      (NeverFail before → Rose before.dials after.dials)
      × ServesAndTells p serveds.Link (λ between. Tells between (as_line (codes "fault link"))) before after

  -- how serving a policy ends. No write failed before the last line, unless the audit could not be written
  abbrev pub EndsServing : Status → PolicyOf → Outside → Outside → Type 0
  EndsServing Done p before after = WasServed p serveds.Done before after after.now.held
  EndsServing Write p before after =
      Rose before.now.writes after.now.writes
      × (WasServed p serveds.Write before after after.now.held
      ⊎ EndsUndialled (λ between. AppendsShort between after.now.held) p before after)
  EndsServing Link p before after = EndsUndialled (λ between. Appends between after.now.held) p before after
  EndsServing Spawn p before after =
      Rose before.spawns after.spawns
      × ServesAndTells p serveds.Spawn
      (λ between. Writes between after.now.held before.now.writes after.now.writes (as_line (codes "fault spawn")))
      before after
  EndsServing Memory p before after = WasServed p serveds.Memory before after after.now.held
  EndsServing Usage p before after = ⊥
  EndsServing Policy p before after = ⊥
  EndsServing Line p before after = ⊥
  EndsServing Read p before after = ⊥
  EndsServing Absent p before after = ⊥

  -- how a policy was served, if one is
  abbrev pub ServedFor : Option PolicyOf → Status → Outside → Outside → Type 0
  ServedFor (Some p) status before after = EndsServing status p before after
  ServedFor None status before after = ⊤

-- what was read and written, where no policy is served
abbrev pub EndsFor : Option PolicyOf → Status → (whole cut : Given) → Moment → Moment → Type 0
EndsFor (Some p) status whole cut old new = ⊤
EndsFor None status whole cut old new = Ends status whole cut old new

-- a run ends where the file of a policy states none, whatever scripts would give over one
abbrev pub EndsUnopened : Status → (all cut : Scripts) → Form → List ℕ → Option (List MemFile) → (fails fails' : ℕ)
    → Moment → Moment → Type 0
EndsUnopened status all cut form name files fails fails' old new =
    (file : Result (List ℕ) FileFault) × Answers files fails fails' name file
    × (served_by (Some (commands.Serve name)) file ≡ None)
    × Replayed status (over_file all form name file) (over_file cut form name file) old new
