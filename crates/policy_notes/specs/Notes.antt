-- A fault as the operator reads it: where it stands, and what it says.
use Rattle.std.specs.Prelude.{ℕ, ◌++◌, ◌==◌, List, [], codes, decimal, if◌then◌else◌}
use Rattle.policies.specs.declared.fault.PolicyFault.{PolicyFault}
use Rattle.policy_notes.specs.Sentences.{sentence_of}
use Rattle.policy_notes.specs.declared.places.Place.{Place}

-- a number behind a colon; of 0 nothing
abbrev pub behind_colon : ℕ → List ℕ
behind_colon n = if n == 0 then [] else (codes ":" ++ decimal n)

-- FILE, FILE:LINE or FILE:LINE:COLUMN
abbrev pub lead_of : List ℕ → Place → List ℕ
lead_of file place = file ++ (behind_colon place.line ++ behind_colon place.column)

-- a line to the operator, behind the program's name
unfoldable pub said : List ℕ → List ℕ
said text = codes "covisor: " ++ (text ++ codes "\n")

-- a fault of the policy of a file, at a place of it
abbrev pub note_of : List ℕ → Place → PolicyFault → List ℕ
note_of file place fault = lead_of file place ++ (codes ": " ++ sentence_of place fault)
