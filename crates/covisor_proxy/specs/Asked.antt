-- What the program writes and answers, and how many steps of composition it takes at most, as one function of its
-- words, of what its files answer, and of its script.
use Rattle.std.specs.Prelude.{◌≡◌, ℕ, List, [], ◌++◌, Option, Some, None, Result, Ok, Err, codes}
use Rattle.outside.specs.declared.files.FileFault.{FileFault}
use Rattle.outside.specs.declared.files.FileFault.TheVariants.{Absent, Failed, Memory}
use Rattle.made_script.specs.Summary.{summary_text}
use Rattle.replay_report.specs.Making.{made_of, made_steps}
use Rattle.policies.specs.Policies.{PolicyOf}
use Rattle.policy_file.specs.Reading.{policy_in_bytes}
use Rattle.policies.specs.Terse.{terse}
use Rattle.policies.specs.declared.fault.PolicyFault.{PolicyFault}
use Rattle.replay_report.specs.Reports.{Report, cut_report_of, cut_report_steps, lone, report_of, report_steps}
use Rattle.script_text.specs.declared.form.Form.{Form}
use Rattle.script_text.specs.declared.form.Form.TheVariants as forms
use Rattle.covisor_proxy.specs.BuiltIn.{built_in_read}
use Rattle.command_line.specs.declared.command.Command.{Command}
use Rattle.command_line.specs.declared.command.Command.TheVariants.{Replay, ReplayPolicy, ExplainPolicy, Serve, Make}

-- the policy that the bytes of a file state, or the first fault of them
unfoldable pub stated : List ℕ → Result PolicyOf PolicyFault
stated bytes = policy_in_bytes bytes

-- what a script gives: its report, and how many steps of composition that takes at most
pub record Given : Type 0 where
  pub report : Report
  pub steps : ℕ

-- of its form, the policy and its bytes
abbrev pub Scripts : Type 0
Scripts = Form → PolicyOf → List ℕ → Given

-- a script, and one that can't be read further
abbrev pub given_of : Scripts
given_of form p script = record { report = report_of form p script; steps = report_steps form p script }

abbrev pub cut_given_of : Scripts
cut_given_of form p read = record { report = cut_report_of form p read; steps = cut_report_steps form p read }

-- a line alone, without a step
abbrev pub line_alone : List ℕ → ℕ → Given
line_alone text status = record { report = lone text status; steps = 0 }

-- nothing is told, without a step
abbrev pub nothing_told : ℕ → Given
nothing_told status = record { report = record { told = []; last = []; status = status }; steps = 0 }

-- over a policy; where it is refused, its fault is told
abbrev pub over : Scripts → Form → Result PolicyOf PolicyFault → List ℕ → Given
over gives form (Ok p) script = gives form p script
over gives form (Err fault) script = line_alone (codes "fault policy " ++ terse fault) 3

-- over the built-in policy, which is none that is refused
abbrev pub over_built_in : Scripts → Result PolicyOf PolicyFault → List ℕ → Given
over_built_in gives (Ok p) script = gives forms.Replay p script
over_built_in gives (Err fault) script = nothing_told 10

-- over what files answer to a name
abbrev pub over_file : Scripts → Form → List ℕ → Result (List ℕ) FileFault → List ℕ → Given
over_file gives form name (Ok bytes) script = over gives form (stated bytes) script
over_file gives form name (Err Absent) script = line_alone (codes "fault absent " ++ name) 7
over_file gives form name (Err Failed) script = line_alone (codes "fault read") 5
over_file gives form name (Err Memory) script = nothing_told 10

-- over a policy that is served no script gives anything
abbrev pub no_report : Scripts
no_report form p script = nothing_told 0

-- what a command gives; of one that serves a policy only what is told where there is none
abbrev pub gives : Scripts → Option Command → Result (List ℕ) FileFault → List ℕ → Given
gives of None file script = line_alone (codes "fault usage") 2
gives of (Some Replay) file script = over_built_in of built_in_read script
gives of (Some (ReplayPolicy name)) file script = over_file of forms.Replay name file script
gives of (Some (ExplainPolicy name)) file script = over_file of forms.Explain name file script
gives of (Some (Serve name)) file script = over_file no_report forms.Replay name file script
gives of (Some (Make seed count)) file script = record {
  report = lone (summary_text (made_of seed count)) 0;
  steps = made_steps seed count;
}

-- of a script, and of one that can't be read further
abbrev pub given_for : Option Command → Result (List ℕ) FileFault → List ℕ → Given
given_for command file script = gives given_of command file script

abbrev pub cut_given_for : Option Command → Result (List ℕ) FileFault → List ℕ → Given
cut_given_for command file script = gives cut_given_of command file script

-- the report of a script, and how many steps of composition it takes at most
abbrev pub report_for : Option Command → Result (List ℕ) FileFault → List ℕ → Report
report_for command file script = (given_for command file script).report

abbrev pub steps_for : Option Command → Result (List ℕ) FileFault → List ℕ → ℕ
steps_for command file script = (given_for command file script).steps
