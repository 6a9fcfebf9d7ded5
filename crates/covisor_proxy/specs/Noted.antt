-- What the operator is told of a run, beside what is written.
use Rattle.std.specs.Prelude.{◌≡◌, ◌⊎◌, ⊤, ℕ, IsOk, List, [], Option, Some, None, Result, Ok, Err}
use Rattle.outside.specs.declared.files.FileFault.{FileFault}
use Rattle.outside.specs.declared.files.MemFile.{MemFile}
use Rattle.policies.specs.Policies.{PolicyOf}
use Rattle.policies.specs.declared.fault.PolicyFault.{PolicyFault}
use Rattle.policy_notes.specs.Notes.{note_of, said}
use Rattle.policy_notes.specs.Remarks.{remarks_of}
use Rattle.policy_notes.specs.declared.places.Place.{Place}
use Rattle.replay_report.specs.Reports.{refusal_text}
use Rattle.replay_report.specs.Takings.{as_line}
use Rattle.replay_report.specs.declared.kind.Kind.{Kind}
use Rattle.script_text.specs.declared.form.Form.{Form}
use Rattle.script_text.specs.declared.form.Form.TheVariants as forms
use Rattle.covisor_proxy.specs.Asked.{Given, given_for, given_of, over_file, stated}
use Rattle.covisor_proxy.specs.LineNotes.{absent_note_of, line_note_of, link_note, script_note, spawn_note, unread_note_of}
use Rattle.covisor_proxy.specs.Opening.{Answers, AnswersTo}
use Rattle.covisor_proxy.specs.Outcomes.{IsScript, code_of}
use Rattle.covisor_proxy.specs.Runs.{name_in}
use Rattle.covisor_proxy.specs.Serving.{served_by}
use Rattle.covisor_proxy.specs.Written.{AppendsSome}
use Rattle.covisor_proxy.specs.declared.line_notes.Seen.{Seen}
use Rattle.covisor_proxy.specs.declared.stop.Stop.{Stop}
use Rattle.covisor_proxy.specs.declared.stop.Stop.TheVariants as stops
use Rattle.covisor_proxy.specs.declared.opening.NoPolicy.{NoPolicy}
use Rattle.covisor_proxy.specs.declared.opening.NoPolicy.TheVariants as none
use Rattle.covisor_proxy.specs.declared.status.Status.{Status}
use Rattle.covisor_proxy.specs.declared.status.Status.TheVariants.{Done, Usage, Policy, Line, Read, Write, Absent, Link}
use Rattle.covisor_proxy.specs.declared.status.Status.TheVariants.{Spawn, Memory}
use Rattle.command_line.specs.declared.command.Command.{Command}
use Rattle.command_line.specs.declared.command.Command.TheVariants as commands

-- a sentence is told, or its beginning
abbrev pub Tells : (held held' : Option (List ℕ)) → List ℕ → Type 0
Tells held held' sentence = AppendsSome held held' (said sentence)

-- the form of a command's script
abbrev pub form_in : Option Command → Form
form_in (Some (commands.ExplainPolicy name)) = forms.Explain
form_in (Some (commands.ReplayPolicy name)) = forms.Replay
form_in (Some commands.Replay) = forms.Replay
form_in (Some (commands.Serve name)) = forms.Replay
form_in (Some (commands.Make seed count)) = forms.Replay
form_in None = forms.Replay

-- the fault of the policy that a file was to state, where it stands, and the file's name
pub record TellsPolicy (name : Option (List ℕ)) (file : Result (List ℕ) FileFault) (held held' : Option (List ℕ)) : Type 0
  where
    pub called : List ℕ
    pub bytes : List ℕ
    pub fault : PolicyFault
    pub place : Place
    pub named : name ≡ Some called
    pub is : file ≡ Ok bytes
    pub refused : stated bytes ≡ Err fault
    pub told : Tells held held' (note_of called place fault)

-- the line at which the script's report ends, and why
pub record TellsLine (form : Form) (all : List ℕ → Given) (left held held' : Option (List ℕ)) : Type 0 where
  pub script : List ℕ
  pub number : ℕ
  pub kind : Kind
  pub seen : Seen
  pub is : IsScript left script
  pub last : (all script).report.last ≡ as_line (refusal_text number kind)
  pub told : Tells held held' (line_note_of number kind form seen)

-- of a replay that stopped so: the line at which it did, or that the script can't be read
abbrev pub NotesLine : Result (Unit {0}) Stop → Form → ℕ → (held held' : Option (List ℕ)) → Type 0
NotesLine (Err (stops.Refused kind)) form number held held' =
    (seen : Seen) × Tells held held' (line_note_of number kind form seen)
NotesLine (Err stops.Read) form number held held' = held' ≡ held
NotesLine (Err stops.Write) form number held held' = held' ≡ held
NotesLine (Err stops.Memory) form number held held' = held' ≡ held
NotesLine (Ok done) form number held held' = held' ≡ held

-- of a replay that ended with a status
abbrev pub NotesEnd : Status → Result (Unit {0}) Stop → Form → ℕ → (held held' : Option (List ℕ)) → Type 0
NotesEnd Line outcome form number held held' = NotesLine outcome form number held held'
NotesEnd Read outcome form number held held' = Tells held held' script_note
NotesEnd Done outcome form number held held' = held' ≡ held
NotesEnd Usage outcome form number held held' = ⊥
NotesEnd Policy outcome form number held held' = ⊥
NotesEnd Write outcome form number held held' = held' ≡ held
NotesEnd Absent outcome form number held held' = ⊥
NotesEnd Link outcome form number held held' = ⊥
NotesEnd Spawn outcome form number held held' = ⊥
NotesEnd Memory outcome form number held held' = held' ≡ held

-- of a policy that there is none of, for such a cause
abbrev pub NotesNone : Status → List ℕ → NoPolicy → (held held' : Option (List ℕ)) → Type 0
NotesNone Policy name (none.Refused fault place) held held' = Tells held held' (note_of name place fault)
NotesNone Absent name none.Absent held held' = Tells held held' (absent_note_of name)
NotesNone Read name none.Unread held held' = Tells held held' (unread_note_of name)
NotesNone Memory name cause held held' = held' ≡ held
NotesNone status name cause held held' = ⊥

-- a replay stopped at a line
abbrev pub IsRefusal : Result (Unit {0}) Stop → Type 0
IsRefusal (Err (stops.Refused kind)) = ⊤
IsRefusal (Err stops.Read) = ⊥
IsRefusal (Err stops.Write) = ⊥
IsRefusal (Err stops.Memory) = ⊥
IsRefusal (Ok done) = ⊥

-- the statuses with which a replay of this outcome may end
abbrev pub IsEnd : Status → Result (Unit {0}) Stop → Type 0
IsEnd Done outcome = IsOk outcome
IsEnd Line outcome = IsRefusal outcome
IsEnd Read outcome = ⊤
IsEnd Write outcome = ⊤
IsEnd Memory outcome = ⊤
IsEnd Usage outcome = ⊥
IsEnd Policy outcome = ⊥
IsEnd Absent outcome = ⊥
IsEnd Link outcome = ⊥
IsEnd Spawn outcome = ⊥

-- the file that can't be read, or the script
pub record TellsName (name : Option (List ℕ)) (sentence : List ℕ → List ℕ) (held held' : Option (List ℕ)) : Type 0 where
  pub called : List ℕ
  pub named : name ≡ Some called
  pub told : Tells held held' (sentence called)

-- of a replay over a policy
abbrev pub NotesOver : Status → Form → (List ℕ → Given) → (left held held' : Option (List ℕ)) → Type 0
NotesOver Line form all left held held' = TellsLine form all left held held'
NotesOver Read form all left held held' = Tells held held' script_note
NotesOver Done form all left held held' = held' ≡ held
NotesOver Usage form all left held held' = ⊥
NotesOver Policy form all left held held' = ⊥
NotesOver Write form all left held held' = held' ≡ held
NotesOver Absent form all left held held' = ⊥
NotesOver Link form all left held held' = ⊥
NotesOver Spawn form all left held held' = ⊥
NotesOver Memory form all left held held' = held' ≡ held

-- of a replay over what a file holds
abbrev pub NotesHeld : Status → Form → List ℕ → Result (List ℕ) FileFault → (left held held' : Option (List ℕ)) → Type 0
NotesHeld Policy form name file left held held' = TellsPolicy (Some name) file held held'
NotesHeld Line form name file left held held' = TellsLine form (over_file given_of form name file) left held held'
NotesHeld Read form name file left held held' =
    TellsName (Some name) unread_note_of held held' ⊎ Tells held held' script_note
NotesHeld Absent form name file left held held' = TellsName (Some name) absent_note_of held held'
NotesHeld Done form name file left held held' = held' ≡ held
NotesHeld Usage form name file left held held' = ⊥
NotesHeld Write form name file left held held' = held' ≡ held
NotesHeld Link form name file left held held' = ⊥
NotesHeld Spawn form name file left held held' = ⊥
NotesHeld Memory form name file left held held' = held' ≡ held

-- the file answered in some way, and so much was told
abbrev pub NotesFile : Status → Form → List ℕ → Option (List MemFile) → (fails fails' : ℕ)
    → (left held held' : Option (List ℕ)) → Type 0
NotesFile status form name files fails fails' left held held' =
    (file : Result (List ℕ) FileFault) × Answers files fails fails' name file
    × NotesHeld status form name file left held held'

-- the remarks on the policy that is served, if one is, and then this
abbrev pub Remarked : Option PolicyOf → (held held' : Option (List ℕ)) → List ℕ → Type 0
Remarked None held held' more = AppendsSome held held' more
Remarked (Some p) held held' more =
    (between : Option (List ℕ)) × AppendsSome held between (remarks_of p) × AppendsSome between held' more

-- of a policy that is served
abbrev pub NotesServed : Status → PolicyOf → (held held' : Option (List ℕ)) → Type 0
NotesServed Link p held held' = Remarked (Some p) held held' (said link_note)
NotesServed Spawn p held held' = Remarked (Some p) held held' (said spawn_note)
NotesServed Done p held held' = Remarked (Some p) held held' []
NotesServed Write p held held' = Remarked (Some p) held held' []
NotesServed Memory p held held' = Remarked (Some p) held held' []
NotesServed Usage p held held' = ⊥
NotesServed Policy p held held' = ⊥
NotesServed Line p held held' = ⊥
NotesServed Read p held held' = ⊥
NotesServed Absent p held held' = ⊥

-- what is told with a status, of a command and what its file and its script hold
abbrev pub NotedFor : Status → Option Command → Result (List ℕ) FileFault → (left held held' : Option (List ℕ)) → Type 0
NotedFor Done command file left held held' = Remarked (served_by command file) held held' []
NotedFor Usage command file left held held' = held' ≡ held
NotedFor Policy command file left held held' = TellsPolicy (name_in command) file held held'
NotedFor Line command file left held held' = TellsLine (form_in command) (given_for command file) left held held'
NotedFor Read command file left held held' =
    TellsName (name_in command) unread_note_of held held' ⊎ Tells held held' script_note
NotedFor Write command file left held held' = Remarked (served_by command file) held held' []
NotedFor Absent command file left held held' = TellsName (name_in command) absent_note_of held held'
NotedFor Link command file left held held' = Remarked (served_by command file) held held' (said link_note)
NotedFor Spawn command file left held held' = Remarked (served_by command file) held held' (said spawn_note)
NotedFor Memory command file left held held' = Remarked (served_by command file) held held' []

-- the files answered in some way, and so much was told
abbrev pub Notes : Status → Option Command → Option (List MemFile) → (fails fails' : ℕ)
    → (left held held' : Option (List ℕ)) → Type 0
Notes status command files fails fails' left held held' =
    (file : Result (List ℕ) FileFault) × AnswersTo command files fails fails' file
    × NotedFor status command file left held held'

-- so of a run: the exit status is that of this status
pub record Noted (answer : ℕ) (command : Option Command) (files : Option (List MemFile)) (fails fails' : ℕ)
    (left held held' : Option (List ℕ)) : Type 0 where
  pub status : Status
  pub code : answer ≡ code_of status
  pub notes : Notes status command files fails fails' left held held'
