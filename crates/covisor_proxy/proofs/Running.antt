-- What follows of a run.
use Rattle.std.proofs.Common.{◌≡◌, ◌≢◌, ◌≤◌, ◌+◌, ◌⊎◌, inl, inr, ℕ, true, List, [], ◌++◌, Option, Some, None, Result}
use Rattle.std.proofs.Common.{Ok, Err, sym, ◌∙◌, subst, refl, arith}
use Rattle.outside.specs.Outside.{Rose}
use Rattle.outside.specs.declared.files.FileFault.{FileFault}
use Rattle.outside.specs.declared.files.FileFault.TheVariants as faults
use Rattle.events.specs.declared.event.Event.{Event}
use Rattle.events.specs.declared.event.Reply.{Reply}
use Rattle.event_composes.specs.Meanings.{StateData}
use Rattle.policies.specs.Policies.{PolicyOf}
use Rattle.policy_lock.specs.declared.machine.Machine.{Ghosts}
use Rattle.covisor_proxy.specs.Asked.{Given, cut_given_for, given_for, report_for, steps_for}
use Rattle.covisor_proxy.specs.Chunks.{IsAtEnd}
use Rattle.covisor_proxy.specs.Laws.{AllDone, IsAbsent, IsCounted, IsDoneSoFar, IsQuiet, IsRefused}
use Rattle.covisor_proxy.specs.Opening.{AnswersTo}
use Rattle.covisor_proxy.specs.Outcomes.{BreaksOff, Counts, IsRead, IsScript, Moment, Settles, code_of}
use Rattle.covisor_proxy.specs.Outside.{NeverFail, Outside}
use Rattle.covisor_proxy.specs.Runs.{Runs, has_script}
use Rattle.covisor_proxy.specs.Serving.{EndsFor, ServedFor, served_by}
use Rattle.covisor_proxy.specs.declared.status.Status.{Status}
use Rattle.covisor_proxy.specs.declared.status.Status.TheVariants as statuses
use Rattle.command_line.specs.declared.command.Command.{Command}
use Rattle.command_line.specs.declared.command.Command.TheVariants as commands
use Rattle.covisor_proxy.proofs.Answering.{absent_for, cut_for, done_for, refused_for, unread_for, unread_steps}
use Rattle.covisor_proxy.proofs.Counting.{at_most}
use Rattle.covisor_proxy.proofs.Reading.{rest_in, script-is}
use Rattle.covisor_proxy.proofs.Statuses.{known_by}

-- ---- where the report of each script has status 0

ok_other : (bytes : List ℕ) (h : ◌≡◌ {A = Result (List ℕ) FileFault} (Ok bytes) (Err faults.Memory)) → ⊥
ok_other bytes h = cc

absent_other : (h : ◌≡◌ {A = Result (List ℕ) FileFault} (Err faults.Absent) (Err faults.Memory)) → ⊥
absent_other h = cc

failed_other : (h : ◌≡◌ {A = Result (List ℕ) FileFault} (Err faults.Failed) (Err faults.Memory)) → ⊥
failed_other h = cc

is_wanted : (file : Result (List ℕ) FileFault) → (file ≢ Err faults.Memory) ⊎ (file ≡ Err faults.Memory)
is_wanted (Ok bytes) = inl (ok_other bytes)
is_wanted (Err faults.Absent) = inl absent_other
is_wanted (Err faults.Failed) = inl failed_other
is_wanted (Err faults.Memory) = inr refl

module _ (n : ℕ) (before after : Outside) (low : n ≡ 0 → ⊥) (script : List ℕ) (is : IsScript before.now.left script)
  where
    -- so it has no other
    settled_as : (command : Option Command) (file : Result (List ℕ) FileFault) → file ≢ Err faults.Memory
        → AnswersTo command before.files before.fails after.fails file → AllDone before after command
        → (report_for command file script).status ≡ n → ⊥
    settled_as command file other a all e = low (sym e ∙ all file script other a is)

    -- where the file wasn't read for want of memory, its status is that
    unless_wanted : (command : Option Command) → (n ≡ 10 → ⊥) → AllDone before after command
        → (report_for command (Err faults.Memory) script).status ≡ n → ⊥
    unless_wanted None more all e = settled_as None (Ok []) (ok_other []) tt all e
    unless_wanted (Some commands.Replay) more all e = settled_as (Some commands.Replay) (Ok []) (ok_other []) tt all e
    unless_wanted (Some (commands.Make seed count)) more all e =
        settled_as (Some (commands.Make seed count)) (Ok []) (ok_other []) tt all e
    unless_wanted (Some (commands.ReplayPolicy name)) more all e = more (sym e)
    unless_wanted (Some (commands.ExplainPolicy name)) more all e = more (sym e)
    unless_wanted (Some (commands.Serve name)) more all e = more (sym e)

    settled_not : (command : Option Command) (file : Result (List ℕ) FileFault) → (n ≡ 10 → ⊥)
        → AnswersTo command before.files before.fails after.fails file → AllDone before after command
        → (report_for command file script).status ≡ n → ⊥
    settled_not command file more a all e =
        elim (is_wanted file) [
          | inl other ↦ settled_as command file other a all e
          | inr same ↦ unless_wanted command more all
              (subst (λ (x : Result (List ℕ) FileFault). (report_for command x script).status ≡ n) same e)
        ]

-- ---- which statuses come where a policy is served

module _ {M : Type 0} (g : Ghosts M Event Reply StateData) (may : ℕ → Type 0) (before after : Outside)
    (whole cut : Given) where
  of_words : (served : Option PolicyOf) → EndsFor served statuses.Usage whole cut before.now after.now
      → ServedFor g may served statuses.Usage before after → Settles 2 whole.report before.now after.now
  of_words (Some p) e s = absurd s
  of_words None e s = e

  of_policy : (served : Option PolicyOf) → EndsFor served statuses.Policy whole cut before.now after.now
      → ServedFor g may served statuses.Policy before after → Settles 3 whole.report before.now after.now
  of_policy (Some p) e s = absurd s
  of_policy None e s = e

  of_line : (served : Option PolicyOf) → EndsFor served statuses.Line whole cut before.now after.now
      → ServedFor g may served statuses.Line before after → Settles 4 whole.report before.now after.now
  of_line (Some p) e s = absurd s
  of_line None e s = e

  of_read : (served : Option PolicyOf) → EndsFor served statuses.Read whole cut before.now after.now
      → ServedFor g may served statuses.Read before after
      → Settles 5 whole.report before.now after.now ⊎ BreaksOff cut before.now after.now
  of_read (Some p) e s = absurd s
  of_read None e s = e

  of_absent : (served : Option PolicyOf) → EndsFor served statuses.Absent whole cut before.now after.now
      → ServedFor g may served statuses.Absent before after → Settles 7 whole.report before.now after.now
  of_absent (Some p) e s = absurd s
  of_absent None e s = e

  of_write : (served : Option PolicyOf) → EndsFor served statuses.Write whole cut before.now after.now
      → ServedFor g may served statuses.Write before after → Rose before.now.writes after.now.writes
  of_write (Some p) e s = s.0
  of_write None e s = e.0

  of_link : (served : Option PolicyOf) → EndsFor served statuses.Link whole cut before.now after.now
      → ServedFor g may served statuses.Link before after → NeverFail before → Rose before.dials after.dials
  of_link (Some p) e s = s.0
  of_link None e s = absurd e

  of_spawn : (served : Option PolicyOf) → EndsFor served statuses.Spawn whole cut before.now after.now
      → ServedFor g may served statuses.Spawn before after → Rose before.spawns after.spawns
  of_spawn (Some p) e s = s.0
  of_spawn None e s = absurd e

-- ---- what follows

module _ {M : Type 0} (g : Ghosts M Event Reply StateData) (may : ℕ → Type 0) (before after : Outside) (answer : ℕ)
    (command : Option Command) (run : Runs g may before after answer command) where
  abbrev served : Option PolicyOf
  served = served_by command run.file

  abbrev whole : Given
  whole = given_for command run.file run.script

  abbrev cut : Given
  cut = cut_given_for command run.file run.script

  is_status : (s : Status) → answer ≡ code_of s → run.status ≡ s
  is_status s e = known_by run.status s (sym run.code ∙ e)

  ends_with : (s : Status) → answer ≡ code_of s
      → EndsFor served s whole cut before.now after.now
  ends_with s e =
      subst (λ (x : Status). EndsFor served x whole cut before.now after.now) (is_status s e) run.ends

  serves_with : (s : Status) → answer ≡ code_of s → ServedFor g may served s before after
  serves_with s e =
      subst (λ (x : Status). ServedFor g may served x before after) (is_status s e) run.serves

  reads_with : (s : Status) → answer ≡ code_of s → IsRead s before.now.left after.now.left run.script
  reads_with s e =
      subst (λ (x : Status). IsRead x before.now.left after.now.left run.script) (is_status s e) run.reads

  pub refused_run : answer ≡ 3 → IsRefused command before.files
  refused_run e =
      let settles = of_policy g may before after whole cut served (ends_with statuses.Policy e)
      (serves_with statuses.Policy e) in
      refused_for before.files before.fails after.fails command run.file run.script run.answers settles.status

  pub absent_run : answer ≡ 7 → IsAbsent command before.files
  absent_run e =
      let settles = of_absent g may before after whole cut served (ends_with statuses.Absent e)
      (serves_with statuses.Absent e) in
      absent_for before.files before.fails after.fails command run.file run.script run.answers settles.status

  read_by : Settles 5 whole.report before.now after.now
      ⊎ BreaksOff cut before.now after.now
      → Rose before.fails after.fails
      ⊎ (Rose before.now.reads after.now.reads × IsDoneSoFar command run.file run.script)
  read_by (inl e) =
      inl (unread_for before.files before.fails after.fails command run.file run.script run.answers e.status)
  read_by (inr e) =
      elim (done_for before.files before.fails after.fails run.script command run.file run.answers e.status) [
        | inl h ↦ inl h
        | inr h ↦ inr (e.fault, h)
      ]

  pub read_run : answer ≡ 5
      → Rose before.fails after.fails
      ⊎ (Rose before.now.reads after.now.reads × IsDoneSoFar command run.file run.script)
  read_run e =
      read_by (of_read g may before after whole cut served (ends_with statuses.Read e)
      (serves_with statuses.Read e))

  pub write_run : answer ≡ 6 → Rose before.now.writes after.now.writes
  write_run e =
      of_write g may before after whole cut served (ends_with statuses.Write e) (serves_with statuses.Write e)

  pub link_run : answer ≡ 8 → NeverFail before → Rose before.dials after.dials
  link_run e =
      of_link g may before after whole cut served (ends_with statuses.Link e) (serves_with statuses.Link e)

  pub spawn_run : answer ≡ 9 → Rose before.spawns after.spawns
  spawn_run e =
      of_spawn g may before after whole cut served (ends_with statuses.Spawn e) (serves_with statuses.Spawn e)

  pub whole_run : answer ≡ 0 → has_script command ≡ true → IsAtEnd after.now.left
  whole_run e = run.whole (is_status statuses.Done e)

  settled : (n : ℕ) → (n ≡ 0 → ⊥) → (n ≡ 10 → ⊥) → IsScript before.now.left run.script → AllDone before after command
      → (report_for command run.file run.script).status ≡ n → ⊥
  settled n low more is all e =
      settled_not n before after low run.script is command run.file more run.answers all e

  complete_by : (s : Status) → answer ≡ code_of s → IsQuiet before after → AllDone before after command
      → (answer ≡ 0) ⊎ (answer ≡ 10)
  complete_by statuses.Done e quiet all = inl e
  complete_by statuses.Memory e quiet all = inr e
  complete_by statuses.Usage e quiet all =
      let settles = of_words g may before after whole cut served (ends_with statuses.Usage e)
      (serves_with statuses.Usage e) in
      absurd (settled 2 (λ h. omega (arith, h)) (λ h. omega (arith, h)) (reads_with statuses.Usage e) all
      settles.status)
  complete_by statuses.Policy e quiet all =
      let settles = of_policy g may before after whole cut served (ends_with statuses.Policy e)
      (serves_with statuses.Policy e) in
      absurd (settled 3 (λ h. omega (arith, h)) (λ h. omega (arith, h)) (reads_with statuses.Policy e) all
      settles.status)
  complete_by statuses.Line e quiet all =
      let settles = of_line g may before after whole cut served (ends_with statuses.Line e)
      (serves_with statuses.Line e) in
      absurd (settled 4 (λ h. omega (arith, h)) (λ h. omega (arith, h)) (reads_with statuses.Line e) all
      settles.status)
  complete_by statuses.Absent e quiet all =
      let settles = of_absent g may before after whole cut served (ends_with statuses.Absent e)
      (serves_with statuses.Absent e) in
      absurd (settled 7 (λ h. omega (arith, h)) (λ h. omega (arith, h)) (reads_with statuses.Absent e) all
      settles.status)
  complete_by statuses.Read e quiet all =
      absurd (elim (read_run e) [ inl h ↦ quiet.files h | inr h ↦ quiet.reads h.0 ])
  complete_by statuses.Write e quiet all = absurd (quiet.writes (write_run e))
  complete_by statuses.Link e quiet all = absurd (quiet.links (link_run e quiet.dials))
  complete_by statuses.Spawn e quiet all = absurd (quiet.spawns (spawn_run e))

  pub complete_run : IsQuiet before after → AllDone before after command → (answer ≡ 0) ⊎ (answer ≡ 10)
  complete_run = complete_by run.status run.code

  -- ---- the steps that are counted

  counted_all : IsScript before.now.left run.script → IsCounted before after command
  counted_all is =
      record { file = run.file; script = run.script; answers = run.answers; is = is; most = run.counts }

  -- where a read failed, the script is what was read and what is left
  counted_more : IsRead statuses.Read before.now.left after.now.left run.script
      → (most : ℕ) → Counts most before.now after.now
      → most ≤ steps_for command run.file (run.script ++ rest_in after.now.left) → IsCounted before after command
  counted_more read most counts less = record {
    file = run.file;
    script = run.script ++ rest_in after.now.left;
    answers = run.answers;
    is = script-is before.now.left after.now.left run.script read;
    most = at_most after.now.steps before.now.steps most
        (steps_for command run.file (run.script ++ rest_in after.now.left)) counts less;
  }

  counted_read : IsRead statuses.Read before.now.left after.now.left run.script
      → Settles 5 whole.report before.now after.now
      ⊎ BreaksOff cut before.now after.now → IsCounted before after command
  counted_read read (inl e) =
      counted_more read (steps_for command run.file run.script) run.counts
      (unread_steps before.files before.fails after.fails command run.file run.script
      (run.script ++ rest_in after.now.left) e.status)
  counted_read read (inr e) =
      counted_more read cut.steps e.counts
      (cut_for command run.file run.script (rest_in after.now.left))

  counted_by : (s : Status) → answer ≡ code_of s → IsCounted before after command
  counted_by statuses.Done e = counted_all (reads_with statuses.Done e)
  counted_by statuses.Usage e = counted_all (reads_with statuses.Usage e)
  counted_by statuses.Policy e = counted_all (reads_with statuses.Policy e)
  counted_by statuses.Line e = counted_all (reads_with statuses.Line e)
  counted_by statuses.Read e =
      counted_read (reads_with statuses.Read e) (of_read g may before after whole cut served (ends_with statuses.Read e)
      (serves_with statuses.Read e))
  counted_by statuses.Write e = counted_all (reads_with statuses.Write e)
  counted_by statuses.Absent e = counted_all (reads_with statuses.Absent e)
  counted_by statuses.Link e = counted_all (reads_with statuses.Link e)
  counted_by statuses.Spawn e = counted_all (reads_with statuses.Spawn e)
  counted_by statuses.Memory e = counted_all (reads_with statuses.Memory e)

  pub counted_run : IsCounted before after command
  counted_run = counted_by run.status run.code
