-- Why a report has a status, and how many steps a script takes at most.
use Rattle.std.proofs.Common.{◌≡◌, ◌≤◌, ◌+◌, ◌⊎◌, inl, inr, ℕ, List, [], ◌∷◌, ◌++◌, Option, Some, None, Result, Ok, Err}
use Rattle.std.proofs.Common.{sym, ap, ◌∙◌, subst, refl, arith, le_refl, length}
use Rattle.outside.specs.Outside.{Rose}
use Rattle.outside.specs.declared.files.FileFault.{FileFault}
use Rattle.outside.specs.declared.files.FileFault.TheVariants as faults
use Rattle.outside.specs.declared.files.MemFile.{MemFile}
use Rattle.replay_report.specs.Making.{made_steps}
use Rattle.replay_report.specs.Playing.{Played}
use Rattle.replay_report.specs.declared.kind.Kind.{Kind}
use Rattle.policies.specs.Policies.{PolicyOf}
use Rattle.policies.specs.declared.fault.PolicyFault.{PolicyFault}
use Rattle.replay_report.specs.Reports.{Progress, Report, cut_after, cut_report_of, further, goes_on, plays, start, taken}
use Rattle.replay_report.specs.Reports.{unfinished, whole_lines}
use Rattle.script_text.specs.declared.form.Form.{Form}
use Rattle.script_text.specs.declared.form.Form.TheVariants as forms
use Rattle.covisor_proxy.specs.Asked.{Scripts, cut_given_for, cut_given_of, given_of, no_report, over, over_built_in}
use Rattle.covisor_proxy.specs.Asked.{over_file, report_for, stated, steps_for}
use Rattle.covisor_proxy.specs.BuiltIn.{built_in_read}
use Rattle.covisor_proxy.specs.Laws.{AreDone, IsAbsent, IsDoneSoFar, IsOver, IsRefused}
use Rattle.covisor_proxy.specs.Opening.{Answers, AnswersTo}
use Rattle.covisor_proxy.specs.Runs.{name_in}
use Rattle.command_line.specs.declared.command.Command.{Command}
use Rattle.command_line.specs.declared.command.Command.TheVariants as commands
use Rattle.covisor_proxy.proofs.Counting.{cut-most}
use Rattle.covisor_proxy.proofs.Going.{cut-is}
use Rattle.covisor_proxy.proofs.Statuses.{IsEither, either_none, either_report}

-- ---- why a report has a status

-- what a script gives over a policy has status 0 or 4
abbrev AreEither : Scripts → Type 0
AreEither of = (form : Form) (p : PolicyOf) (script : List ℕ) → IsEither (of form p script).report

no_other : (r : Report) → IsEither r → (n : ℕ) → (n ≡ 0 → ⊥) → (n ≡ 4 → ⊥) → r.status ≡ n → ⊥
no_other r (inl h) n a b e = a (sym e ∙ h)
no_other r (inr h) n a b e = b (sym e ∙ h)

module _ (of : Scripts) (either : AreEither of) where
  -- where a policy is refused, its fault is known
  refused_over : (form : Form) (r : Result PolicyOf PolicyFault) (script : List ℕ)
      → (over of form r script).report.status ≡ 3 → (fault : PolicyFault) × (r ≡ Err fault)
  refused_over form (Ok p) script e =
      absurd (no_other (of form p script).report (either form p script) 3 (λ h. omega (arith, h))
      (λ h. omega (arith, h)) e)
  refused_over form (Err fault) script e = (fault, refl)

  over_other : (form : Form) (r : Result PolicyOf PolicyFault) (script : List ℕ) (n : ℕ) → (n ≡ 0 → ⊥) → (n ≡ 3 → ⊥)
      → (n ≡ 4 → ⊥)
      → (over of form r script).report.status ≡ n → ⊥
  over_other form (Ok p) script n a b c e = no_other (of form p script).report (either form p script) n a c e
  over_other form (Err fault) script n a b c e = b (sym e)

  module _ (command : Option Command) (files : Option (List MemFile)) (form : Form) (name : List ℕ) (fails fails' : ℕ)
    where
      refused_file : (file : Result (List ℕ) FileFault) (script : List ℕ) → name_in command ≡ Some name
          → Answers files fails fails' name file → (over_file of form name file script).report.status ≡ 3
          → IsRefused command files
      refused_file (Ok bytes) script n a e =
          let f = refused_over form (stated bytes) script e in
          record { name = name; bytes = bytes; fault = f.0; named = n; held = a; refused = f.1 }
      refused_file (Err faults.Absent) script n a e = absurd (omega arith)
      refused_file (Err faults.Failed) script n a e = absurd (omega arith)
      refused_file (Err faults.Memory) script n a e = absurd (omega arith)

      absent_file : (file : Result (List ℕ) FileFault) (script : List ℕ) → name_in command ≡ Some name
          → Answers files fails fails' name file → (over_file of form name file script).report.status ≡ 7
          → IsAbsent command files
      absent_file (Ok bytes) script n a e =
          absurd (over_other form (stated bytes) script 7 (λ h. omega (arith, h)) (λ h. omega (arith, h))
          (λ h. omega (arith, h)) e)
      absent_file (Err faults.Absent) script n a e = record { name = name; named = n; absent = a }
      absent_file (Err faults.Failed) script n a e = absurd (omega arith)
      absent_file (Err faults.Memory) script n a e = absurd (omega arith)

      unread_file : (file : Result (List ℕ) FileFault) (script : List ℕ)
          → Answers files fails fails' name file → (over_file of form name file script).report.status ≡ 5
          → Rose fails fails'
      unread_file (Ok bytes) script a e =
          absurd (over_other form (stated bytes) script 5 (λ h. omega (arith, h)) (λ h. omega (arith, h))
          (λ h. omega (arith, h)) e)
      unread_file (Err faults.Absent) script a e = absurd (omega arith)
      unread_file (Err faults.Failed) script a e = a
      unread_file (Err faults.Memory) script a e = absurd (omega arith)

      -- it takes no step
      unread_most : (file : Result (List ℕ) FileFault) (script other : List ℕ)
          → (over_file of form name file script).report.status ≡ 5
          → (over_file of form name file script).steps ≤ (over_file of form name file other).steps
      unread_most (Ok bytes) script other e =
          absurd (over_other form (stated bytes) script 5 (λ h. omega (arith, h)) (λ h. omega (arith, h))
          (λ h. omega (arith, h)) e)
      unread_most (Err faults.Absent) script other e = absurd (omega arith)
      unread_most (Err faults.Failed) script other e = le_refl 0
      unread_most (Err faults.Memory) script other e = absurd (omega arith)

never_built_in : (r : Result PolicyOf PolicyFault) (script : List ℕ) (n : ℕ) → (n ≡ 0 → ⊥) → (n ≡ 4 → ⊥) → (n ≡ 10 → ⊥)
    → (over_built_in given_of r script).report.status ≡ n → ⊥
never_built_in (Ok p) script n a b c e = no_other (given_of forms.Replay p script).report
    (either_report forms.Replay p script) n a b e
never_built_in (Err fault) script n a b c e = c (sym e)

module _ (files : Option (List MemFile)) (fails fails' : ℕ) where
  pub refused_for : (command : Option Command) (file : Result (List ℕ) FileFault) (script : List ℕ)
      → AnswersTo command files fails fails' file → (report_for command file script).status ≡ 3
      → IsRefused command files
  refused_for None file script a e = absurd (omega arith)
  refused_for (Some commands.Replay) file script a e =
      absurd (never_built_in built_in_read script 3 (λ h. omega (arith, h)) (λ h. omega (arith, h))
      (λ h. omega (arith, h)) e)
  refused_for (Some (commands.ReplayPolicy name)) file script a e =
      refused_file given_of either_report (Some (commands.ReplayPolicy name)) files forms.Replay name fails fails' file
      script refl a e
  refused_for (Some (commands.ExplainPolicy name)) file script a e =
      refused_file given_of either_report (Some (commands.ExplainPolicy name)) files forms.Explain name fails fails'
      file script refl a e
  refused_for (Some (commands.Serve name)) file script a e =
      refused_file no_report either_none (Some (commands.Serve name)) files forms.Replay name fails fails' file script
      refl a e
  refused_for (Some (commands.Make seed count)) file script a e = absurd (omega arith)

  pub absent_for : (command : Option Command) (file : Result (List ℕ) FileFault) (script : List ℕ)
      → AnswersTo command files fails fails' file → (report_for command file script).status ≡ 7 → IsAbsent command files
  absent_for None file script a e = absurd (omega arith)
  absent_for (Some commands.Replay) file script a e =
      absurd (never_built_in built_in_read script 7 (λ h. omega (arith, h)) (λ h. omega (arith, h))
      (λ h. omega (arith, h)) e)
  absent_for (Some (commands.ReplayPolicy name)) file script a e =
      absent_file given_of either_report (Some (commands.ReplayPolicy name)) files forms.Replay name fails fails' file
      script refl a e
  absent_for (Some (commands.ExplainPolicy name)) file script a e =
      absent_file given_of either_report (Some (commands.ExplainPolicy name)) files forms.Explain name fails fails' file
      script refl a e
  absent_for (Some (commands.Serve name)) file script a e =
      absent_file no_report either_none (Some (commands.Serve name)) files forms.Replay name fails fails' file script
      refl a e
  absent_for (Some (commands.Make seed count)) file script a e = absurd (omega arith)

  pub unread_for : (command : Option Command) (file : Result (List ℕ) FileFault) (script : List ℕ)
      → AnswersTo command files fails fails' file → (report_for command file script).status ≡ 5 → Rose fails fails'
  unread_for None file script a e = absurd (omega arith)
  unread_for (Some commands.Replay) file script a e =
      absurd (never_built_in built_in_read script 5 (λ h. omega (arith, h)) (λ h. omega (arith, h))
      (λ h. omega (arith, h)) e)
  unread_for (Some (commands.ReplayPolicy name)) file script a e =
      unread_file given_of either_report (Some (commands.ReplayPolicy name)) files forms.Replay name fails fails' file
      script a e
  unread_for (Some (commands.ExplainPolicy name)) file script a e =
      unread_file given_of either_report (Some (commands.ExplainPolicy name)) files forms.Explain name fails fails' file
      script a e
  unread_for (Some (commands.Serve name)) file script a e =
      unread_file no_report either_none (Some (commands.Serve name)) files forms.Replay name fails fails' file script a
      e
  unread_for (Some (commands.Make seed count)) file script a e = absurd (omega arith)

  pub unread_steps : (command : Option Command) (file : Result (List ℕ) FileFault) (script other : List ℕ)
      → (report_for command file script).status ≡ 5 → steps_for command file script ≤ steps_for command file other
  unread_steps None file script other e = absurd (omega arith)
  unread_steps (Some commands.Replay) file script other e =
      absurd (never_built_in built_in_read script 5 (λ h. omega (arith, h)) (λ h. omega (arith, h))
      (λ h. omega (arith, h)) e)
  unread_steps (Some (commands.ReplayPolicy name)) file script other e =
      unread_most given_of either_report (Some (commands.ReplayPolicy name)) files forms.Replay name fails fails' file
      script other e
  unread_steps (Some (commands.ExplainPolicy name)) file script other e =
      unread_most given_of either_report (Some (commands.ExplainPolicy name)) files forms.Explain name fails fails' file
      script other e
  unread_steps (Some (commands.Serve name)) file script other e =
      unread_most no_report either_none (Some (commands.Serve name)) files forms.Replay name fails fails' file script
      other e
  unread_steps (Some (commands.Make seed count)) file script other e = absurd (omega arith)

-- ---- a report that breaks off has no line that is refused

done_by : (r : Result Played Kind) (used : ℕ) (at : Progress) (next : Progress → Report) (Rest : Progress → Type 0)
    → ((x : Progress) → (next x).status ≡ 5 → Rest x) → (goes_on r used at next).status ≡ 5
    → (played : Played) × (r ≡ Ok played) × Rest (further used at played.stand)
done_by (Err kind) used at next Rest h e = absurd (omega arith)
done_by (Ok played) used at next Rest h e = (played, refl, h (further used at played.stand) e)

done_lines : (form : Form) (p : PolicyOf) (rest : List ℕ) (lines : List (List ℕ)) (at : Progress)
    → (plays form p (cut_after rest) at lines).status ≡ 5 → AreDone form p at lines
done_lines form p rest [] at e = tt
done_lines form p rest (line ∷ lines) at e =
    done_by (taken form p at line (length line + 1)) (length line + 1) at
    (λ next. plays form p (cut_after rest) next lines) (λ x. AreDone form p x lines)
    (λ x. done_lines form p rest lines x) e

done_report : (form : Form) (p : PolicyOf) (read : List ℕ) → (cut_report_of form p read).status ≡ 5
    → AreDone form p (start p) (whole_lines [] read)
done_report form p read e =
    done_lines form p (unfinished [] read) (whole_lines [] read) (start p)
    (sym (ap (λ (r : Report). r.status) (cut-is form p read)) ∙ e)

-- it is over a policy that was accepted
module _ (command : Option Command) (file : Result (List ℕ) FileFault) (form : Form) (read : List ℕ) where
  done_over : (r : Result PolicyOf PolicyFault) → ((p : PolicyOf) → r ≡ Ok p → IsOver command file form p)
      → (over cut_given_of form r read).report.status ≡ 5 → IsDoneSoFar command file read
  done_over (Ok p) is e = record { form = form; policy = p; over = is p refl; done = done_report form p read e }
  done_over (Err fault) is e = absurd (omega arith)

done_built_in : (r : Result PolicyOf PolicyFault) (file : Result (List ℕ) FileFault) (read : List ℕ)
    → built_in_read ≡ r → (over_built_in cut_given_of r read).report.status ≡ 5
    → IsDoneSoFar (Some commands.Replay) file read
done_built_in (Ok p) file read is e =
    record { form = forms.Replay; policy = p; over = (refl, is); done = done_report forms.Replay p read e }
done_built_in (Err fault) file read is e = absurd (omega arith)

module _ (files : Option (List MemFile)) (fails fails' : ℕ) (read : List ℕ) where
  -- or the file can't be read
  done_replayed : (name : List ℕ) (file : Result (List ℕ) FileFault) → Answers files fails fails' name file
      → (over_file cut_given_of forms.Replay name file read).report.status ≡ 5
      → Rose fails fails' ⊎ IsDoneSoFar (Some (commands.ReplayPolicy name)) file read
  done_replayed name (Ok bytes) a e =
      inr (done_over (Some (commands.ReplayPolicy name)) (Ok bytes) forms.Replay read (stated bytes)
      (λ p is. (refl, is)) e)
  done_replayed name (Err faults.Absent) a e = absurd (omega arith)
  done_replayed name (Err faults.Failed) a e = inl a
  done_replayed name (Err faults.Memory) a e = absurd (omega arith)

  done_explained : (name : List ℕ) (file : Result (List ℕ) FileFault) → Answers files fails fails' name file
      → (over_file cut_given_of forms.Explain name file read).report.status ≡ 5
      → Rose fails fails' ⊎ IsDoneSoFar (Some (commands.ExplainPolicy name)) file read
  done_explained name (Ok bytes) a e =
      inr (done_over (Some (commands.ExplainPolicy name)) (Ok bytes) forms.Explain read (stated bytes)
      (λ p is. (refl, is)) e)
  done_explained name (Err faults.Absent) a e = absurd (omega arith)
  done_explained name (Err faults.Failed) a e = inl a
  done_explained name (Err faults.Memory) a e = absurd (omega arith)

  pub done_for : (command : Option Command) (file : Result (List ℕ) FileFault)
      → AnswersTo command files fails fails' file → (cut_given_for command file read).report.status ≡ 5
      → Rose fails fails' ⊎ IsDoneSoFar command file read
  done_for None file a e = absurd (omega arith)
  done_for (Some commands.Replay) file a e = inr (done_built_in built_in_read file read refl e)
  done_for (Some (commands.ReplayPolicy name)) file a e = done_replayed name file a e
  done_for (Some (commands.ExplainPolicy name)) file a e = done_explained name file a e
  done_for (Some (commands.Serve name)) file a e =
      inl (unread_file no_report either_none (Some (commands.Serve name)) files forms.Replay name fails fails' file read
      a e)
  done_for (Some (commands.Make seed count)) file a e = absurd (omega arith)

-- ---- how many steps a script takes at most

-- what was read of a script takes at most what the script takes
cut_over : (form : Form) (r : Result PolicyOf PolicyFault) (read rest : List ℕ)
    → (over cut_given_of form r read).steps ≤ (over given_of form r (read ++ rest)).steps
cut_over form (Ok p) read rest = cut-most form p read rest
cut_over form (Err fault) read rest = le_refl 0

cut_built_in : (r : Result PolicyOf PolicyFault) (read rest : List ℕ)
    → (over_built_in cut_given_of r read).steps ≤ (over_built_in given_of r (read ++ rest)).steps
cut_built_in (Ok p) read rest = cut-most forms.Replay p read rest
cut_built_in (Err fault) read rest = le_refl 0

cut_file : (form : Form) (name : List ℕ) (file : Result (List ℕ) FileFault) (read rest : List ℕ)
    → (over_file cut_given_of form name file read).steps ≤ (over_file given_of form name file (read ++ rest)).steps
cut_file form name (Ok bytes) read rest = cut_over form (stated bytes) read rest
cut_file form name (Err faults.Absent) read rest = le_refl 0
cut_file form name (Err faults.Failed) read rest = le_refl 0
cut_file form name (Err faults.Memory) read rest = le_refl 0

-- a policy that is served takes none
unserved_over : (form : Form) (r : Result PolicyOf PolicyFault) (read rest : List ℕ)
    → (over no_report form r read).steps ≤ (over no_report form r (read ++ rest)).steps
unserved_over form (Ok p) read rest = le_refl 0
unserved_over form (Err fault) read rest = le_refl 0

unserved_file : (form : Form) (name : List ℕ) (file : Result (List ℕ) FileFault) (read rest : List ℕ)
    → (over_file no_report form name file read).steps ≤ (over_file no_report form name file (read ++ rest)).steps
unserved_file form name (Ok bytes) read rest = unserved_over form (stated bytes) read rest
unserved_file form name (Err faults.Absent) read rest = le_refl 0
unserved_file form name (Err faults.Failed) read rest = le_refl 0
unserved_file form name (Err faults.Memory) read rest = le_refl 0

pub cut_for : (command : Option Command) (file : Result (List ℕ) FileFault) (read rest : List ℕ)
    → (cut_given_for command file read).steps ≤ steps_for command file (read ++ rest)
cut_for None file read rest = le_refl 0
cut_for (Some commands.Replay) file read rest = cut_built_in built_in_read read rest
cut_for (Some (commands.ReplayPolicy name)) file read rest = cut_file forms.Replay name file read rest
cut_for (Some (commands.ExplainPolicy name)) file read rest = cut_file forms.Explain name file read rest
cut_for (Some (commands.Serve name)) file read rest = unserved_file forms.Replay name file read rest
cut_for (Some (commands.Make seed count)) file read rest = le_refl (made_steps seed count)
