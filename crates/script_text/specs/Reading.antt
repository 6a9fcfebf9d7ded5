-- Reading a line: what it says, or its first fault.
use Rattle.std.specs.Prelude.{◌≡◌, ℕ, ◌+◌, ◌==◌, ◌&&◌, ◌||◌, Bool, true, false, not, List, [], ◌∷◌, Option, Some, None}
use Rattle.std.specs.Prelude.{Result, Ok, Err, codes, length, nat_le, nat_lt, position, slice_index, take, drop}
use Rattle.std.specs.Prelude.{if◌then◌else◌}
use Rattle.std.specs.List.{list_all}
use Rattle.std.specs.Str.{bytes_eq}
use Rattle.hex.specs.Hex.{decode_of}
use Rattle.hex.specs.declared.error.FromHexError.{FromHexError}
use Rattle.script_text.specs.Names.{is_member, is_name, is_session}
use Rattle.script_text.specs.Numbers.{number_in}
use Rattle.script_text.specs.Verbs.{is_sim, verb_in}
use Rattle.script_text.specs.Words.{is_word, words}
use Rattle.script_text.specs.declared.fault.LineFault.{LineFault}
use Rattle.script_text.specs.declared.fault.LineFault.TheVariants.{Word, Name, Hex, Number, Memory}
use Rattle.script_text.specs.declared.form.Form.{Form}
use Rattle.script_text.specs.declared.form.Verb.{Verb}
use Rattle.script_text.specs.declared.form.Verb.TheVariants.{Up, From, Gone, Tick, Expr, Ask, Packet}
use Rattle.script_text.specs.declared.line.Line.{Line}
use Rattle.script_text.specs.declared.line.Line.TheVariants as lines

infixl 10 ◌>>=◌
abbrev pub ◌>>=◌ : {A B : Type 0} → Result A LineFault → (A → Result B LineFault) → Result B LineFault
(Ok x) >>= f = f x
(Err e) >>= f = Err e

-- ---- parts of a line

-- the word, where the test holds of it
abbrev pub where_named : Bool → List ℕ → Result (List ℕ) LineFault
where_named holds word = if holds then Ok word else Err Name

-- the name of a session, and of a switch or virtual switch
abbrev pub session_in : List ℕ → Result (List ℕ) LineFault
session_in word = where_named (is_session word) word

abbrev pub switch_in : List ℕ → Result (List ℕ) LineFault
switch_in word = where_named (is_name word) word

-- the bytes of digits in either case, of which there is at least one
abbrev pub some_bytes : Result (List ℕ) FromHexError → Result (List ℕ) LineFault
some_bytes (Err fault) = Err Hex
some_bytes (Ok []) = Err Hex
some_bytes (Ok (byte ∷ bytes)) = Ok (byte ∷ bytes)

abbrev pub hex_in : List ℕ → Result (List ℕ) LineFault
hex_in digits = some_bytes (decode_of digits)

abbrev pub number_or_fault : LineFault → Option ℕ → Result ℕ LineFault
number_or_fault fault None = Err fault
number_or_fault fault (Some n) = Ok n

-- a place `SWITCH:PORT`, about the place of its colon
abbrev pub place_about : List ℕ → Option ℕ → Result (List ℕ × ℕ) LineFault
place_about word None = Err Name
place_about word (Some at) = do
  port ← number_or_fault Name (number_in 65535 (drop (at + 1) word))
  switch ← switch_in (take at word)
  Ok (switch, port)

abbrev pub place_in : List ℕ → Result (List ℕ × ℕ) LineFault
place_in word = place_about word (position (λ c. c == 58) word)

-- the bytes of a packet that comes in
abbrev pub packet_in : List ℕ → Result (List ℕ) LineFault
packet_in digits = do
  bytes ← hex_in digits
  if nat_le 14 (length bytes) && nat_le (length bytes) 65513 then Ok bytes else Err Hex

-- ---- lines

-- a line of two words, behind its first
abbrev pub two_words : Verb → List ℕ → Result Line LineFault
two_words Up word = do
  name ← session_in word
  Ok (lines.Up name false)
two_words Gone word = do
  name ← session_in word
  Ok (lines.Gone name)
two_words Tick word = do
  second ← number_or_fault Number (number_in 18446744073709551615 word)
  Ok (lines.Tick second)
two_words _ word = Err Word

-- a line of three words, behind its first
abbrev pub three_words : Form → Verb → List ℕ → List ℕ → Result Line LineFault
three_words form Up word last = if is_sim form || (is_member word || not (bytes_eq last (codes "noarp"))) then Err Word
    else do
      name ← session_in word
      Ok (lines.Up name true)
three_words form From word last = if is_sim form && is_name word then Err Word else do
  name ← session_in word
  bytes ← hex_in last
  Ok (lines.From name bytes)
three_words form Expr word last = if nat_lt 1024 (length last) then Err Word else do
  name ← switch_in word
  Ok (lines.Expr name last)
three_words form Ask word last = do
  at ← place_in word
  bytes ← hex_in last
  Ok (lines.Ask at.0 at.1 bytes)
three_words form Packet word last = do
  at ← place_in word
  bytes ← packet_in last
  Ok (lines.Packet at.0 at.1 bytes)
three_words form _ word last = Err Word

-- by the first word, where it is known
abbrev pub two_of : Option Verb → List ℕ → Result Line LineFault
two_of None word = Err Word
two_of (Some verb) word = two_words verb word

abbrev pub three_of : Form → Option Verb → List ℕ → List ℕ → Result Line LineFault
three_of form None word last = Err Word
three_of form (Some verb) word last = three_words form verb word last

-- by the number of words
abbrev pub by_count : Form → List (List ℕ) → Result Line LineFault
by_count form (first ∷ second ∷ []) = two_of (verb_in form first) second
by_count form (first ∷ second ∷ third ∷ []) = three_of form (verb_in form first) second third
by_count form _ = Err Word

-- what pieces say, all of which are words
abbrev pub said : Form → List (List ℕ) → Result Line LineFault
said form pieces = if list_all is_word pieces then by_count form pieces else Err Word

-- a line that is empty or begins with `#`
abbrev pub is_blank : List ℕ → Bool
is_blank line = (length line == 0) || (slice_index line 0 == 35)

-- what a line says
abbrev pub line_in : Form → List ℕ → Result Line LineFault
line_in form line = if is_blank line then Ok lines.Blank else said form (words line)

-- what a call answered is what reading gives, unless memory ran out
abbrev pub Gives : {A : Type 0} → Result A LineFault → Result A LineFault → Type 0
Gives (Err Memory) read = Unit {0}
Gives answer read = answer ≡ read
