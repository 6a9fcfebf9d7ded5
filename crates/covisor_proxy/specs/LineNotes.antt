-- What the operator is told of a line that isn't done, and of what can't be read, served or linked.
use Rattle.std.specs.Prelude.{ℕ, Bool, true, false, ◌++◌, List, [], ◌∷◌, Option, Some, None, codes, decimal}
use Rattle.replay_report.specs.declared.kind.Kind.{Kind}
use Rattle.replay_report.specs.declared.kind.Kind.TheVariants.{Word, Name, Hex, Number, Unknown, Long, Size}
use Rattle.script_text.specs.declared.form.Form.{Form}
use Rattle.script_text.specs.declared.form.Form.TheVariants as forms
use Rattle.script_text.specs.declared.form.Verb.{Verb}
use Rattle.script_text.specs.declared.form.Verb.TheVariants.{Up, From, Gone, Tick, Expr, Ask, Packet}
use Rattle.covisor_proxy.specs.declared.line_notes.Seen.{Seen}

-- the first words that a form knows
abbrev pub verbs_text : Form → List ℕ
verbs_text forms.Replay = codes "a line is up, from, gone, tick or expr"
verbs_text forms.Explain = codes "a line is up, from, gone, tick, expr or ask"
verbs_text forms.Sim = codes "a line is up, from, gone, tick, expr or packet"

-- how a line of a first word is written
abbrev pub shape_text : Verb → List ℕ
shape_text Up = codes "up NAME, or up SWITCH noarp"
shape_text From = codes "from NAME HEX"
shape_text Gone = codes "gone NAME"
shape_text Tick = codes "tick SECOND"
shape_text Expr = codes "expr VIRTUAL TEXT, TEXT of at most 1,024 characters without a blank"
shape_text Ask = codes "ask SWITCH:PORT HEX"
shape_text Packet = codes "packet SWITCH:PORT HEX"

-- how a line of a first word has to be written
abbrev pub shape_sentence : Verb → List ℕ
shape_sentence verb = (codes "it has to be " ++ shape_text verb) ++ codes ", with one blank between words"

-- how a line of a form has to be written
abbrev pub word_text : Form → Option Verb → List ℕ
word_text form (Some verb) = shape_sentence verb
word_text form None = verbs_text form

-- the name of a session, of a virtual switch or of a place
abbrev pub name_text : Option Verb → List ℕ
name_text (Some Expr) = codes "VIRTUAL has to be a name, as v1"
name_text (Some Ask) = codes "the place has to be SWITCH:PORT, as s1:2"
name_text (Some Packet) = codes "the place has to be SWITCH:PORT, as s1:2"
name_text (Some Up) = codes "NAME has to be that of a session, as s1 or app@v1"
name_text (Some From) = codes "NAME has to be that of a session, as s1 or app@v1"
name_text (Some Gone) = codes "NAME has to be that of a session, as s1 or app@v1"
name_text (Some Tick) = codes "NAME has to be that of a session, as s1 or app@v1"
name_text None = codes "NAME has to be that of a session, as s1 or app@v1"

-- the sessions that there are
abbrev pub sessions_text : List ℕ → List ℕ
sessions_text names = codes "there is no such session; there are " ++ names

-- what there is of what isn't there
abbrev pub known_text : Option Verb → List ℕ → List ℕ
known_text (Some Expr) names = codes "there is no such virtual switch"
known_text (Some Ask) names = codes "there is no such switch with such an outside port"
known_text (Some Packet) names = codes "there is no such switch with such an outside port"
known_text (Some Up) names = sessions_text names
known_text (Some From) names = sessions_text names
known_text (Some Gone) names = sessions_text names
known_text (Some Tick) names = sessions_text names
known_text None names = sessions_text names

-- why a line isn't done
abbrev pub why_text : Kind → Form → Seen → List ℕ
why_text Word form seen = word_text form seen.verb
why_text Name form seen = name_text seen.verb
why_text Hex form seen = codes "HEX has to be hexadecimal digits, two for each byte"
why_text Number form seen = codes "a number has to be decimal digits without leading zeros, below 2^64, a port below 65536"
why_text Unknown form seen = known_text seen.verb seen.names
why_text Long form seen = codes "more than 140,000 bytes"
why_text Size form seen = codes "the script has more than 4,294,967,295 bytes"

-- what is shown of a line, in quotes (34)
abbrev pub quoted : List ℕ → List ℕ
quoted [] = []
quoted (c ∷ text) = codes ", \"" ++ ((c ∷ text) ++ codes "\"")

-- a line of this number isn't done
abbrev pub line_note_of : ℕ → Kind → Form → Seen → List ℕ
line_note_of number kind form seen =
    codes "line " ++ (decimal number ++ (quoted seen.shown ++ (codes ": " ++ why_text kind form seen)))

-- there is no file, or it can't be read
abbrev pub absent_note_of : List ℕ → List ℕ
absent_note_of name = codes "there is no file " ++ name

-- the file can't be read
abbrev pub unread_note_of : List ℕ → List ℕ
unread_note_of name = name ++ codes " can't be read: it is a folder, or reading it is not allowed"

-- the script can't be read to its end
abbrev pub script_note : List ℕ
script_note = codes "the script can't be read to its end"

-- some endpoint wasn't served, or none
abbrev pub link_note : List ℕ
link_note = codes "an endpoint could not be dialled, or its dial failed: is its address in use or not this machine's?"

-- no endpoint was served
abbrev pub spawn_note : List ℕ
spawn_note = codes "the works that serve could not be run; nothing was served"
