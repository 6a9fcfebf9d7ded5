-- The changes that messages ask for.
use Rattle.std.specs.Prelude.{ℕ, ◌&&◌, Bool, true, false, List, [], map, Option, Some, None, option_to_list}
use Rattle.std.specs.Prelude.{if◌then◌else◌}
use Rattle.std.specs.List.{list_any}
use Rattle.of10_actions.specs.declared.action.Action.{Action}
use Rattle.of10_msgs.specs.Commands.{command_at}
use Rattle.of10_msgs.specs.declared.message.FlowMod.{FlowMod}
use Rattle.member_table.specs.Changes.{replaced}
use Rattle.member_table.specs.Tables.{TableOf, entry_of, identity_in, is_meant, outputs_to}
use Rattle.member_table.specs.Timeouts.{serials_of}
use Rattle.member_table.specs.declared.change.Change.{Change}
use Rattle.of10_msgs.specs.declared.command.Command.{Command}
use Rattle.of10_msgs.specs.declared.command.Command.TheVariants.{Add, Modify, ModifyStrict, Delete, DeleteStrict}
use Rattle.member_table.specs.declared.entry.Entry.{Entry}

-- an entry comes, in the place of the one of this number, if there is one
abbrev pub adding : Entry → Option ℕ → Change
adding new replaced = record { added = Some new; removed = option_to_list replaced; modified = [] }

-- entries get other actions
abbrev pub changing : List Action → List ℕ → Change
changing actions serials = record {
  added = None;
  removed = [];
  modified = map (λ s. record { serial = s; actions = actions }) serials;
}

-- entries go
abbrev pub removing : List ℕ → Change
removing serials = record { added = None; removed = serials; modified = [] }

-- the entry that a message describes comes, and the one whose place it takes goes
abbrev pub addition : TableOf → FlowMod → ℕ → Change
addition t m now = adding (entry_of t.next m now) (replaced (Some (entry_of t.next m now)) t.entries)

-- the entries that are meant get other actions; where there is none, an entry comes
abbrev pub modification : Bool → TableOf → FlowMod → ℕ → Change
modification strict t m now =
    if list_any (is_meant strict (identity_in m)) t.entries
    then changing m.actions (serials_of (is_meant strict (identity_in m)) t.entries)
    else addition t m now

-- the entries that are meant and that have an OUTPUT to the port that is asked for go
abbrev pub removal : Bool → TableOf → FlowMod → Change
removal strict t m = removing (serials_of (λ e. is_meant strict (identity_in m) e && outputs_to m.out_port e) t.entries)

-- the change that a command asks for
abbrev pub change_by_command : Command → TableOf → FlowMod → ℕ → Change
change_by_command Add t m now = addition t m now
change_by_command Modify t m now = modification false t m now
change_by_command ModifyStrict t m now = modification true t m now
change_by_command Delete t m now = removal false t m
change_by_command DeleteStrict t m now = removal true t m

-- a number that is no command's asks for no change
abbrev pub change_asked : Option Command → TableOf → FlowMod → ℕ → Change
change_asked None t m now = removing []
change_asked (Some command) t m now = change_by_command command t m now

-- the change that a message asks for at a moment: exactly the numbers of the entries that go, and of those
-- that get other actions, in the table's order
abbrev pub change_of : TableOf → FlowMod → ℕ → Change
change_of t m now = change_asked (command_at m.command) t m now
