-- What is asked for, by what `clap` matched.
use Rattle.std.specs.Prelude.{List, Option, Some, None, IfSome, codes, option_and_then, option_map, if◌then◌else◌}
use Rattle.std.specs.Str.{bytes_eq}
use Rattle.cv_io.specs.Text.{IsAsciiText}
use Rattle.clap.specs.Words.{Row, Text, first_of}
use Rattle.command_line.specs.Forms.{count_in, making, seed_in}
use Rattle.command_line.specs.declared.command.Command.{Command}
use Rattle.command_line.specs.declared.command.Command.TheVariants.{Replay, ReplayPolicy, ExplainPolicy, Serve}

abbrev pub replaying : Option Text → Command
replaying (Some name) = ReplayPolicy name
replaying None = Replay

abbrev pub policy_in : List Row → Option Text
policy_in = first_of (codes "POLICY")

abbrev pub made_in : List Row → Option Command
made_in rows =
    making (option_and_then seed_in (first_of (codes "SEED") rows))
    (option_and_then count_in (first_of (codes "N") rows))

-- what a verb asks for with its texts
abbrev pub meant_by : Text → List Row → Option Command
meant_by verb rows =
    if bytes_eq verb (codes "replay") then Some (replaying (policy_in rows))
    else (if bytes_eq verb (codes "explain") then option_map (λ name. ExplainPolicy name) (policy_in rows)
    else (if bytes_eq verb (codes "serve") then option_map (λ name. Serve name) (policy_in rows)
    else (if bytes_eq verb (codes "make") then made_in rows else None)))

-- a policy's name is ASCII
abbrev pub NamesAscii : List Row → Type 0
NamesAscii rows = IfSome (policy_in rows) IsAsciiText
