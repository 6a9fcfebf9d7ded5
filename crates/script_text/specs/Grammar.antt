-- The grammar of lines: which lines say what, apart from how they are read.
use Rattle.std.specs.Prelude.{◌≡◌, ◌<◌, ◌≤◌, ◌^◌, ◌+◌, ◌⊎◌, ℕ, Bool, true, false, List, [], ◌∷◌, ◌++◌, Ok, codes}
use Rattle.std.specs.Prelude.{decimal, length}
use Rattle.hex.specs.Hex.{decode_of}
use Rattle.script_text.specs.Names.{is_member, is_name, is_session}
use Rattle.script_text.specs.Verbs.{is_sim, is_explain, verb_text}
use Rattle.script_text.specs.Words.{is_word, spaced}
use Rattle.script_text.specs.declared.form.Form.{Form}
use Rattle.script_text.specs.declared.form.Verb.{Verb}
use Rattle.script_text.specs.declared.form.Verb.TheVariants as verbs
use Rattle.script_text.specs.declared.line.Line.{Line}
use Rattle.script_text.specs.declared.line.Line.TheVariants.{Blank, Up, From, Gone, Tick, Expr, Ask, Packet}

-- a line of two words, or of three, with one blank between each two
abbrev pub IsTwo : Verb → List ℕ → List ℕ → Type 0
IsTwo verb word line = line ≡ spaced (verb_text verb ∷ word ∷ [])

abbrev pub IsThree : Verb → List ℕ → List ℕ → List ℕ → Type 0
IsThree verb word last line = line ≡ spaced (verb_text verb ∷ word ∷ last ∷ [])

-- hexadecimal digits, in either case, of one byte or more
pub record IsHex (digits bytes : List ℕ) : Type 0 where
  pub is : decode_of digits ≡ Ok bytes
  pub some : 0 < length bytes

-- `SWITCH:PORT`, the port in decimal digits without leading zeros
pub record IsPlace (switch : List ℕ) (port : ℕ) (word : List ℕ) : Type 0 where
  pub named : is_name switch ≡ true
  pub small : port ≤ 65535
  pub is : word ≡ switch ++ (58 ∷ decimal port)

-- the line says this, in this form of the program
abbrev pub Says : Form → Line → List ℕ → Type 0
Says form Blank line = (line ≡ []) ⊎ ((comment : List ℕ) × (line ≡ 35 ∷ comment))
Says form (Up name false) line = (is_session name ≡ true) × IsTwo verbs.Up name line
Says form (Up name true) line = (is_name name ≡ true) × (is_sim form ≡ false)
    × IsThree verbs.Up name (codes "noarp") line
Says form (From name bytes) line =
    (is_session name ≡ true) × (is_sim form ≡ true → is_name name ≡ false)
    × ((digits : List ℕ) × IsHex digits bytes × IsThree verbs.From name digits line)
Says form (Gone name) line = (is_session name ≡ true) × IsTwo verbs.Gone name line
Says form (Tick second) line = (second < 2 ^ 64) × IsTwo verbs.Tick (decimal second) line
Says form (Expr name text) line = (is_name name ≡ true) × (is_word text ≡ true) × (length text ≤ 1024)
    × IsThree verbs.Expr name text line
Says form (Ask switch port bytes) line =
    (is_explain form ≡ true) × ((word : List ℕ) × (digits : List ℕ) × IsPlace switch port word × IsHex digits bytes
    × IsThree verbs.Ask word digits line)
Says form (Packet switch port bytes) line =
    (is_sim form ≡ true) × (14 ≤ length bytes) × (length bytes ≤ 65513)
    × ((word : List ℕ) × (digits : List ℕ) × IsPlace switch port word × IsHex digits bytes
    × IsThree verbs.Packet word digits line)
