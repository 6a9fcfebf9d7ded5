-- The forms of the command line.
use Rattle.std.specs.Prelude.{ℕ, ◌==◌, ◌&&◌, ◌||◌, Bool, not, List, [], ◌∷◌, map, Option, Some, None, codes}
use Rattle.std.specs.Prelude.{length, nat_le, slice_index, if◌then◌else◌}
use Rattle.std.specs.List.{list_all}
use Rattle.std.specs.Str.{bytes_eq}
use Rattle.std.specs.String.{string_bytes}
use Rattle.std.specs.declared.alloc.Global.{Global}
use Rattle.std.specs.declared.string.String.{String}
use Rattle.script_text.specs.Numbers.{number_in}
use Rattle.command_line.specs.declared.command.Command.{Command}
use Rattle.command_line.specs.declared.command.Command.TheVariants.{Replay, ReplayPolicy, ExplainPolicy, Serve, Make}

-- printable ASCII
abbrev pub is_printable : ℕ → Bool
is_printable c = nat_le 32 c && nat_le c 126

-- a word that can be of a form: it isn't empty, doesn't begin with `-` (45), and is printable
abbrev pub is_plain : List ℕ → Bool
is_plain word = not (length word == 0) && (not (slice_index word 0 == 45) && list_all is_printable word)

-- `replay`
abbrev pub alone : List ℕ → Option Command
alone verb = if bytes_eq verb (codes "replay") then Some Replay else None

-- a verb that goes before a policy
abbrev pub is_of_policy : List ℕ → Bool
is_of_policy verb = bytes_eq verb (codes "replay") || (bytes_eq verb (codes "explain") || bytes_eq verb (codes "serve"))

-- `replay POLICY`, `explain POLICY` and `serve POLICY`
abbrev pub of_policy : List ℕ → List ℕ → Option Command
of_policy verb name =
    if bytes_eq verb (codes "replay") then Some (ReplayPolicy name)
    else (if bytes_eq verb (codes "explain") then Some (ExplainPolicy name)
    else (if bytes_eq verb (codes "serve") then Some (Serve name) else None))

-- a seed is at most 2^64 - 1
abbrev pub seed_in : List ℕ → Option ℕ
seed_in = number_in 18446744073709551615

abbrev pub at_least_one : Option ℕ → Option ℕ
at_least_one None = None
at_least_one (Some n) = if n == 0 then None else Some n

-- there are at most 2,000 messages, and at least one
abbrev pub count_in : List ℕ → Option ℕ
count_in word = at_least_one (number_in 2000 word)

abbrev pub making : Option ℕ → Option ℕ → Option Command
making (Some seed) (Some count) = Some (Make seed count)
making (Some seed) None = None
making None count = None

-- `make SEED N`
abbrev pub of_numbers : List ℕ → List ℕ → List ℕ → Option Command
of_numbers verb seed count = if bytes_eq verb (codes "make") then making (seed_in seed) (count_in count) else None

-- the forms, by the number of their words
abbrev pub form_of : List (List ℕ) → Option Command
form_of [] = None
form_of (verb ∷ []) = alone verb
form_of (verb ∷ name ∷ []) = of_policy verb name
form_of (verb ∷ seed ∷ count ∷ []) = of_numbers verb seed count
form_of (verb ∷ seed ∷ count ∷ more ∷ words) = None

-- what words ask for; None where they are of no form
abbrev pub command_of : List (String Global) → Option Command
command_of words = if list_all is_plain (map string_bytes words) then form_of (map string_bytes words) else None
