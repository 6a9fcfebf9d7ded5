-- The first words of lines.
use Rattle.std.specs.Prelude.{ℕ, ◌&&◌, Bool, true, false, List, Option, Some, None, codes, if◌then◌else◌}
use Rattle.std.specs.Str.{bytes_eq}
use Rattle.script_text.specs.declared.form.Form.{Form}
use Rattle.script_text.specs.declared.form.Form.TheVariants.{Replay, Explain, Sim}
use Rattle.script_text.specs.declared.form.Verb.{Verb}
use Rattle.script_text.specs.declared.form.Verb.TheVariants.{Up, From, Gone, Tick, Expr, Ask, Packet}

abbrev pub is_explain : Form → Bool
is_explain Replay = false
is_explain Explain = true
is_explain Sim = false

abbrev pub is_sim : Form → Bool
is_sim Replay = false
is_sim Explain = false
is_sim Sim = true

-- the spelling of a first word
abbrev pub verb_text : Verb → List ℕ
verb_text Up = codes "up"
verb_text From = codes "from"
verb_text Gone = codes "gone"
verb_text Tick = codes "tick"
verb_text Expr = codes "expr"
verb_text Ask = codes "ask"
verb_text Packet = codes "packet"

-- the first word that this is, where the form knows it: `ask` is of Explain alone, `packet` of Sim
abbrev pub verb_in : Form → List ℕ → Option Verb
verb_in form word =
    if bytes_eq word (verb_text Up) then Some Up
    else (if bytes_eq word (verb_text From) then Some From
    else (if bytes_eq word (verb_text Gone) then Some Gone
    else (if bytes_eq word (verb_text Tick) then Some Tick
    else (if bytes_eq word (verb_text Expr) then Some Expr
    else (if is_explain form && bytes_eq word (verb_text Ask) then Some Ask
    else (if is_sim form && bytes_eq word (verb_text Packet) then Some Packet
    else None))))))
