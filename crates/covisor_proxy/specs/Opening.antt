-- What files answer to a name.
use Rattle.std.specs.Prelude.{◌≡◌, ⊤, ℕ, List, Option, Some, None, Result, Ok, Err}
use Rattle.outside.specs.Files.{found}
use Rattle.outside.specs.Outside.{Rose}
use Rattle.outside.specs.declared.files.FileFault.{FileFault}
use Rattle.outside.specs.declared.files.FileFault.TheVariants.{Absent, Failed, Memory}
use Rattle.outside.specs.declared.files.MemFile.{MemFile}
use Rattle.policies.specs.Policies.{PolicyOf}
use Rattle.covisor_proxy.specs.Asked.{stated}
use Rattle.covisor_proxy.specs.declared.opening.NoPolicy.{NoPolicy}
use Rattle.covisor_proxy.specs.declared.opening.NoPolicy.TheVariants as none
use Rattle.command_line.specs.declared.command.Command.{Command}
use Rattle.command_line.specs.declared.command.Command.TheVariants.{Replay, ReplayPolicy, ExplainPolicy, Serve, Make}

-- the files hold this under a name, where they tell what they hold
abbrev pub Holds : Option (List MemFile) → List ℕ → Option (List ℕ) → Type 0
Holds None name bytes = ⊤
Holds (Some files) name bytes = found files name ≡ bytes

-- the files answer so: a failure comes only where their count of failures rose
abbrev pub Answers : Option (List MemFile) → ℕ → ℕ → List ℕ → Result (List ℕ) FileFault → Type 0
Answers files old new name (Ok bytes) = Holds files name (Some bytes)
Answers files old new name (Err Absent) = Holds files name None
Answers files old new name (Err Failed) = Rose old new
Answers files old new name (Err Memory) = ⊤

-- so they answer to the name that a command has, if it has one
abbrev pub AnswersTo : Option Command → Option (List MemFile) → ℕ → ℕ → Result (List ℕ) FileFault → Type 0
AnswersTo (Some (ReplayPolicy name)) files old new file = Answers files old new name file
AnswersTo (Some (ExplainPolicy name)) files old new file = Answers files old new name file
AnswersTo (Some (Serve name)) files old new file = Answers files old new name file
AnswersTo (Some Replay) files old new file = ⊤
AnswersTo (Some (Make seed count)) files old new file = ⊤
AnswersTo None files old new file = ⊤

-- bytes state a policy, or are refused
abbrev pub Reads : List ℕ → Result PolicyOf NoPolicy → Type 0
Reads bytes (Ok p) = stated bytes ≡ Ok p
Reads bytes (Err (none.Refused fault place)) = stated bytes ≡ Err fault
Reads bytes (Err none.Memory) = ⊤
Reads bytes (Err none.Absent) = ⊥
Reads bytes (Err none.Unread) = ⊥

-- what files hold under a name states a policy, or is refused; or they hold nothing, or a read failed
abbrev pub Opens : Option (List MemFile) → ℕ → ℕ → List ℕ → Result PolicyOf NoPolicy → Type 0
Opens files old new name (Ok p) = (bytes : List ℕ) × Holds files name (Some bytes) × (stated bytes ≡ Ok p)
Opens files old new name (Err (none.Refused fault place)) = (bytes : List ℕ) × Holds files name (Some bytes)
    × (stated bytes ≡ Err fault)
Opens files old new name (Err none.Absent) = Holds files name None
Opens files old new name (Err none.Unread) = Rose old new
Opens files old new name (Err none.Memory) = ⊤
