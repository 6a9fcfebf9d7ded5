-- A run, put together of what is known of its parts.
use Rattle.std.proofs.Common.{◌≡◌, ℕ, true, List, [], Option, Some, None, Result, Ok, Err, codes, refl, subst, sym}
use Rattle.std.proofs.lemmas.Bool.{false≢true}
use Rattle.outside.specs.declared.files.FileFault.{FileFault}
use Rattle.outside.specs.declared.files.FileFault.TheVariants as faults
use Rattle.events.specs.declared.event.Event.{Event}
use Rattle.events.specs.declared.event.Reply.{Reply}
use Rattle.event_composes.specs.Meanings.{StateData}
use Rattle.policies.specs.Policies.{PolicyOf}
use Rattle.policies.specs.declared.fault.PolicyFault.{PolicyFault}
use Rattle.policy_lock.specs.declared.machine.Machine.{Ghosts}
use Rattle.replay_report.specs.Takings.{as_line}
use Rattle.script_text.specs.declared.form.Form.TheVariants as forms
use Rattle.covisor_proxy.specs.Asked.{cut_given_for, given_for, no_report, stated}
use Rattle.covisor_proxy.specs.Chunks.{IsAtEnd}
use Rattle.covisor_proxy.specs.Opening.{AnswersTo, Opens}
use Rattle.covisor_proxy.specs.Outcomes.{IsRead, Replayed, code_of}
use Rattle.covisor_proxy.specs.Outside.{Outside}
use Rattle.covisor_proxy.specs.Runs.{Runs, has_script}
use Rattle.covisor_proxy.specs.Serving.{EndsFor, EndsServing, EndsUnopened, ServedFor, accepted, served_by}
use Rattle.covisor_proxy.specs.Written.{Writes}
use Rattle.covisor_proxy.specs.declared.status.Status.{Status}
use Rattle.covisor_proxy.specs.declared.status.Status.TheVariants as statuses
use Rattle.command_line.specs.declared.command.Command.{Command}
use Rattle.command_line.specs.declared.command.Command.TheVariants as commands
use Rattle.covisor_proxy.proofs.Counting.{none-counted}
use Rattle.covisor_proxy.proofs.Finishing.{answers-wanted, replayed-none, script-told, settles-alone}
use Rattle.covisor_proxy.proofs.Reading.{rest_in}

pub memory_other : (h : ◌≡◌ {A = Status} statuses.Memory statuses.Done) → ⊥
memory_other h = cc

pub usage_other : (h : ◌≡◌ {A = Status} statuses.Usage statuses.Done) → ⊥
usage_other h = cc

unread_unserved : (command : Option Command) → served_by command (Err faults.Memory) ≡ None
unread_unserved None = refl
unread_unserved (Some commands.Replay) = refl
unread_unserved (Some (commands.ReplayPolicy name)) = refl
unread_unserved (Some (commands.ExplainPolicy name)) = refl
unread_unserved (Some (commands.Serve name)) = refl
unread_unserved (Some (commands.Make seed count)) = refl

module _ {M : Type 0} (g : Ghosts M Event Reply StateData) (may : ℕ → Type 0) (before after : Outside) where
  -- no policy is served
  pub runs-unserved : (status : Status) (command : Option Command) (file : Result (List ℕ) FileFault)
      → AnswersTo command before.files before.fails after.fails file → served_by command file ≡ None
      → (status ≡ statuses.Done → has_script command ≡ true → IsAtEnd after.now.left)
      → Replayed status (given_for command file) (cut_given_for command file) before.now after.now
      → Runs g may before after (code_of status) command
  runs-unserved status command file answers none whole r = record {
    status = status;
    code = refl;
    file = file;
    answers = answers;
    script = r.script;
    reads = r.reads;
    whole = whole;
    ends = subst (λ (x : Option PolicyOf). EndsFor x status (given_for command file r.script)
        (cut_given_for command file r.script) before.now after.now) (sym none) r.ends;
    serves = subst (λ (x : Option PolicyOf). ServedFor g may x status before after) (sym none) tt;
    counts = r.counts;
  }

  pub runs-wanted : (command : Option Command) → after.now.held ≡ before.now.held
      → after.now.steps ≡ before.now.steps → Runs g may before after (code_of statuses.Memory) command
  runs-wanted command e s =
      runs-unserved statuses.Memory command (Err faults.Memory)
      (answers-wanted command before.files before.fails after.fails) (unread_unserved command)
      (λ is has. absurd (memory_other is))
      (replayed-none (given_for command (Err faults.Memory)) (cut_given_for command (Err faults.Memory)) before.now
      after.now e s)

  pub runs-usage : after.now.steps ≡ before.now.steps
      → Writes before.now.held after.now.held before.now.writes after.now.writes (as_line (codes "fault usage"))
      → Runs g may before after (code_of statuses.Usage) None
  runs-usage s a =
      let script = rest_in before.now.left in
      runs-unserved statuses.Usage None (Err faults.Memory) tt refl (λ is has. absurd (usage_other is))
      (record {
        script = script;
        reads = script-told before.now.left;
        ends = settles-alone 2 (given_for None (Err faults.Memory) script) (codes "fault usage") before.now after.now
            refl a;
        counts = none-counted (given_for None (Err faults.Memory) script).steps before.now after.now s;
      })

  -- a policy is served, or the file states none
  served_read : (status : Status) (p : PolicyOf) → EndsServing g may status p before after
      → IsRead status before.now.left after.now.left (rest_in before.now.left)
  served_read statuses.Done p e = script-told before.now.left
  served_read statuses.Usage p e = absurd e
  served_read statuses.Policy p e = absurd e
  served_read statuses.Line p e = absurd e
  served_read statuses.Read p e = absurd e
  served_read statuses.Write p e = script-told before.now.left
  served_read statuses.Absent p e = absurd e
  served_read statuses.Link p e = script-told before.now.left
  served_read statuses.Spawn p e = script-told before.now.left
  served_read statuses.Memory p e = script-told before.now.left

  pub runs-served : (name : List ℕ) (status : Status) (p : PolicyOf)
      → Opens before.files before.fails after.fails name (Ok p)
      → EndsServing g may status p before after → after.now.steps ≡ before.now.steps
      → Runs g may before after (code_of status) (Some (commands.Serve name))
  runs-served name status p o ends s =
      let command = Some (commands.Serve name) in
      let script = rest_in before.now.left in
      record {
        status = status;
        code = refl;
        file = Ok o.0;
        answers = o.1;
        script = script;
        reads = served_read status p ends;
        whole = λ is has. absurd (false≢true has);
        ends = subst (λ (x : Result PolicyOf PolicyFault). EndsFor (accepted x) status (given_for command (Ok o.0) script)
            (cut_given_for command (Ok o.0) script) before.now after.now) (sym o.2) tt;
        serves = subst (λ (x : Result PolicyOf PolicyFault). ServedFor g may (accepted x) status before after) (sym o.2)
            ends;
        counts = none-counted (given_for command (Ok o.0) script).steps before.now after.now s;
      }

  pub runs-unopened : (name : List ℕ) (status : Status)
      → EndsUnopened status no_report no_report forms.Replay name before.files before.fails after.fails before.now
      after.now
      → Runs g may before after (code_of status) (Some (commands.Serve name))
  runs-unopened name status u =
      runs-unserved status (Some (commands.Serve name)) u.0 u.1 u.2 (λ is has. absurd (false≢true has)) u.3
