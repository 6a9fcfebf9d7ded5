-- Texts of others, as they stand in HTML and in Prometheus' labels.
use Rattle.std.specs.Prelude.{ℕ, ◌==◌, List, [], ◌∷◌, codes, if◌then◌else◌}

-- a byte in HTML: & < > and " by their names
abbrev pub html_of : ℕ → List ℕ
html_of byte =
    if byte == 38 then codes "&amp;"
    else (if byte == 60 then codes "&lt;"
    else (if byte == 62 then codes "&gt;"
    else (if byte == 34 then codes "&quot;"
    else byte ∷ [])))

-- a byte in a label's value: a backslash before \ and ", and a line feed as \n
abbrev pub label_of : ℕ → List ℕ
label_of byte =
    if byte == 92 then codes "\\\\"
    else (if byte == 34 then codes "\\\""
    else (if byte == 10 then codes "\\n"
    else byte ∷ []))
