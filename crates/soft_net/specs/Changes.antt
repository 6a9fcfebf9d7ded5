-- What a FLOW_MOD makes of a table (sections 4.6 and 5.3.3 of the OpenFlow Switch Specification 1.0.0).
use Rattle.std.specs.Prelude.{not, Bool, true, false, List, [], ◌∷◌, map, filter, Option, Some, None, if◌then◌else◌}
use Rattle.std.specs.List.{list_any}
use Rattle.of10_actions.specs.declared.action.Action.{Action}
use Rattle.of10_match.specs.Wildcards.{normal_of}
use Rattle.of10_msgs.specs.Commands.{command_at}
use Rattle.of10_msgs.specs.declared.command.Command.{Command}
use Rattle.of10_msgs.specs.declared.command.Command.TheVariants.{Add, Modify, ModifyStrict, Delete, DeleteStrict}
use Rattle.of10_msgs.specs.declared.message.Body.{Body}
use Rattle.of10_msgs.specs.declared.message.Body.TheVariants.{FlowMod}
use Rattle.of10_msgs.specs.declared.message.FlowMod.{FlowMod as FlowModOf}
use Rattle.soft_net.specs.Entries.{entry_of}
use Rattle.soft_net.specs.Tables.{TableOf, is_full, is_meant, is_selected, with_entry}
use Rattle.soft_net.specs.declared.entry.SoftEntry.{SoftEntry}
use Rattle.soft_net.specs.declared.selection.Selection.{Selection}
use Rattle.soft_net.specs.declared.selection.Selection.TheVariants.{Strict, Covered}

-- which entries a FLOW_MOD means
abbrev pub selection_in : Bool → FlowModOf → Selection
selection_in true m = Strict (record { m = normal_of m.m; priority = m.priority })
selection_in false m = Covered (normal_of m.m)

-- an entry with other actions: all else stays, its counts too
abbrev pub with_actions : List Action → SoftEntry → SoftEntry
with_actions actions e = record e { flow = record e.flow { actions = actions } }

-- a table with the entry of a FLOW_MOD, and zero counts; one that has given all numbers takes none
abbrev pub added : TableOf → FlowModOf → TableOf
added t m = if is_full t then t else with_entry t (entry_of t.next m)

-- a table in which the entries that are meant have other actions; where there is none, the entry is added
abbrev pub modified : Selection → TableOf → FlowModOf → TableOf
modified s t m =
    if list_any (is_meant s) t.entries
    then record t { entries = map (λ e. if is_meant s e then with_actions m.actions e else e) t.entries }
    else added t m

-- a table without the entries that are meant and have an OUTPUT to the port that is asked for
abbrev pub deleted : Selection → TableOf → FlowModOf → TableOf
deleted s t m = record t { entries = filter (λ e. not (is_selected s m.out_port e)) t.entries }

-- what a command makes of a table; a number that is no command's changes nothing
abbrev pub after_command : Option Command → TableOf → FlowModOf → TableOf
after_command None t m = t
after_command (Some Add) t m = added t m
after_command (Some Modify) t m = modified (selection_in false m) t m
after_command (Some ModifyStrict) t m = modified (selection_in true m) t m
after_command (Some Delete) t m = deleted (selection_in false m) t m
after_command (Some DeleteStrict) t m = deleted (selection_in true m) t m

-- the table after a message
abbrev pub after : TableOf → Body → TableOf
after t (FlowMod m) = after_command (command_at m.command) t m
after t _ = t

-- after several, one after the other
abbrev pub after_all : TableOf → List Body → TableOf
after_all t [] = t
after_all t (body ∷ bodies) = after_all (after t body) bodies
