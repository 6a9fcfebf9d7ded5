-- The commands of FLOW_MOD, with their numbers.
use Rattle.std.specs.Prelude.{ℕ, List, [], ◌∷◌, Option, slice_get}
use Rattle.of10_msgs.specs.declared.command.Command.{Command}
use Rattle.of10_msgs.specs.declared.command.Command.TheVariants.{Add, Modify, ModifyStrict, Delete, DeleteStrict}

-- the commands, by their numbers from 0
abbrev pub commands : List Command
commands = Add ∷ Modify ∷ ModifyStrict ∷ Delete ∷ DeleteStrict ∷ []

-- the command of a number; none above 4
abbrev pub command_at : ℕ → Option Command
command_at number = slice_get commands number

-- the number of a command
abbrev pub command_number : Command → ℕ
command_number Add = 0
command_number Modify = 1
command_number ModifyStrict = 2
command_number Delete = 3
command_number DeleteStrict = 4
