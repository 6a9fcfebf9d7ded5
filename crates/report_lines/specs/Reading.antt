-- What a report says was put to a session.
use Rattle.std.specs.Prelude.{ℕ, ◌==◌, List, [], ◌∷◌, ◌++◌, Option, Some, None, Result, Ok, Err, codes, flat_map}
use Rattle.std.specs.Prelude.{if◌then◌else◌}
use Rattle.hex.specs.Hex.{decode_of}
use Rattle.hex.specs.declared.error.FromHexError.{FromHexError}
use Rattle.report_lines.specs.Lines.{lines_in}

-- what stands behind the head of a line, if the line begins with it
abbrev pub behind : List ℕ → List ℕ → Option (List ℕ)
behind [] line = Some line
behind (c ∷ head) [] = None
behind (c ∷ head) (d ∷ line) = if c == d then behind head line else None

-- the head of each line of a message to a session: the word `to`, and the session's name
abbrev pub head_of : List ℕ → List ℕ
head_of name = codes "to " ++ (name ++ codes " ")

-- the bytes that digits spell, if they spell any
abbrev pub read_of : Result (List ℕ) FromHexError → List (List ℕ)
read_of (Ok bytes) = bytes ∷ []
read_of (Err fault) = []

abbrev pub message_in : Option (List ℕ) → List (List ℕ)
message_in None = []
message_in (Some digits) = read_of (decode_of digits)

-- the message that a line says was put to a session
abbrev pub told_by : List ℕ → List ℕ → List (List ℕ)
told_by name line = message_in (behind (head_of name) line)

-- the messages that a report says were put to it, in order
abbrev pub messages_to : List ℕ → List ℕ → List (List ℕ)
messages_to name report = flat_map (told_by name) (lines_in report)
