-- What is read of a report is what it was made of.
use Rattle.std.specs.Prelude.{◌≡◌, ◌⊎◌, ℕ, true, List, [], ◌∷◌, None, codes, flat_map, if◌then◌else◌, nat_eq}
use Rattle.std.specs.Cmp.Lexicographic.{pointwise}
use Rattle.std.specs.List.{AllByRecursion}
use Rattle.hex.specs.Hex.{IsBytes, decode_of, encode_lower}
use Rattle.script_text.specs.Lines.{report_text}
use Rattle.report_lines.specs.Lines.{as_line, is_line, is_word}
use Rattle.report_lines.specs.Reading.{behind, messages_to, read_of}

-- a line of a report: a message that was put to the session of a name, or another line
pub data Told : Type 0 where
  To : (name message : List ℕ) → Told
  Other : (line : List ℕ) → Told

abbrev pub line_of : Told → List ℕ
line_of (To name message) = report_text name message
line_of (Other line) = line

-- a report
abbrev pub report_with : List Told → List ℕ
report_with told = flat_map (λ t. as_line (line_of t)) told

-- names are words, and no other line begins as those of messages do
abbrev pub IsPlain : Told → Type 0
IsPlain (To name message) = is_word name ≡ true
IsPlain (Other line) = (is_line line ≡ true) × (behind (codes "to ") line ≡ None)

-- the messages that lines say were put to the session of a name
abbrev pub said_by : List ℕ → Told → List (List ℕ)
said_by name (To other message) = if pointwise nat_eq name other then message ∷ [] else []
said_by name (Other line) = []

abbrev pub said_to : List ℕ → List Told → List (List ℕ)
said_to name told = flat_map (said_by name) told

-- what is read of a message's digits
abbrev pub read_back : List ℕ → List (List ℕ)
read_back message = read_of (decode_of (encode_lower message))

pub record MessagesAreReadBack : Type 0 where
  pub bytes : (message : List ℕ) → IsBytes message → read_back message ≡ message ∷ []
  pub any : (message : List ℕ) → (read_back message ≡ message ∷ []) ⊎ (read_back message ≡ [])

abbrev pub ReportsAreReadBack : Type 0
ReportsAreReadBack =
    (name : List ℕ) → is_word name ≡ true → (told : List Told) → AllByRecursion IsPlain told
    → messages_to name (report_with told) ≡ flat_map read_back (said_to name told)
