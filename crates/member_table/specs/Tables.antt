-- A member's table, and what a message makes of it (sections 4.6 and 5.3.3 of the standard).
use Rattle.std.specs.Prelude.{ℕ, ◌+◌, ◌==◌, ◌||◌, ◌&&◌, not, Bool, true, false, List, map, filter, Option, Some, None}
use Rattle.std.specs.Prelude.{if◌then◌else◌}
use Rattle.std.specs.List.{list_any}
use Rattle.of10_match.specs.Matching.{covers}
use Rattle.of10_match.specs.Numbers.{rank_by}
use Rattle.of10_match.specs.OfpMatchFields.{fields_in}
use Rattle.of10_match.specs.Wildcards.{is_exact, normal_of}
use Rattle.of10_actions.specs.declared.action.Action.{Action}
use Rattle.of10_actions.specs.declared.action.Action.TheVariants.{Output}
use Rattle.of10_msgs.specs.Commands.{command_at}
use Rattle.of10_msgs.specs.declared.message.FlowMod.{FlowMod}
use Rattle.member_table.specs.Entries.{is_at, put}
use Rattle.of10_msgs.specs.declared.command.Command.{Command}
use Rattle.of10_msgs.specs.declared.command.Command.TheVariants.{Add, Modify, ModifyStrict, Delete, DeleteStrict}
use Rattle.member_table.specs.declared.entry.Entry.{Entry}
use Rattle.member_table.specs.declared.entry.Identity.{Identity}

-- a table: its entries in the order of insertion, the next serial number, and how many entries it may have
pub record TableOf : Type 0 where
  pub entries : List Entry
  pub next : ℕ
  pub limit : ℕ

-- a table, and for how many more entries there is memory
pub record Held : Type 0 where
  pub table : TableOf
  pub room : ℕ

-- the entry has the rank
abbrev pub has_rank : ℕ → Entry → Bool
has_rank rank e = rank == e.rank

-- the rank of a match as it is written: above every priority where it is written without a wildcard
abbrev pub rank_written : List ℕ → ℕ → ℕ
rank_written written priority = rank_by (is_exact (fields_in written)) priority

-- the rank of a message
abbrev pub rank_of : FlowMod → ℕ
rank_of m = rank_written m.m m.priority

-- the rank and the match of a message
abbrev pub identity_in : FlowMod → Identity
identity_in m = record { rank = rank_of m; normal = normal_of m.m }

-- the entry that a message describes
abbrev pub entry_of : ℕ → FlowMod → ℕ → Entry
entry_of serial m now = record {
  serial = serial;
  raw = m.m;
  normal = normal_of m.m;
  priority = m.priority;
  rank = rank_of m;
  cookie = m.cookie;
  idle = m.idle_timeout;
  hard = m.hard_timeout;
  flags = m.flags;
  actions = m.actions;
  added = now;
  last = now;
}

-- a strict message means the entry of its rank and match, another each entry whose match its own covers
abbrev pub is_meant : Bool → Identity → Entry → Bool
is_meant true asked e = is_at asked e
is_meant false asked e = covers asked.normal e.normal

-- the action is an OUTPUT to this number
unfoldable pub is_output_to : ℕ → Action → Bool
is_output_to port (Output p max_len) = p == port
is_output_to port _ = false

-- no port is asked for, or the entry has an OUTPUT to that number as it is written
abbrev pub outputs_to : ℕ → Entry → Bool
outputs_to port e = (port == 65535) || list_any (is_output_to port) e.actions

-- an entry with other actions: all else stays
abbrev pub with_actions : List Action → Entry → Entry
with_actions actions e = record e { actions = actions }

-- a table with the entry that a message describes: in the place of the identical one, else last
abbrev pub with_entry : TableOf → FlowMod → ℕ → TableOf
with_entry t m now = record t { entries = put (entry_of t.next m now) t.entries; next = t.next + 1 }

-- a table in which the entries that are meant have other actions; where there is none, the entry is added
abbrev pub modified : Bool → TableOf → FlowMod → ℕ → TableOf
modified strict t m now =
    if list_any (is_meant strict (identity_in m)) t.entries
    then record t {
      entries = map (λ e. if is_meant strict (identity_in m) e then with_actions m.actions e else e)
          t.entries;
    }
    else with_entry t m now

-- a table without the entries that are meant and that have an OUTPUT to the port that is asked for
abbrev pub deleted : Bool → TableOf → FlowMod → TableOf
deleted strict t m =
    record t { entries = filter (λ e. not (is_meant strict (identity_in m) e && outputs_to m.out_port e)) t.entries }

-- what a command makes of a table
abbrev pub after_command : Command → TableOf → FlowMod → ℕ → TableOf
after_command Add t m now = with_entry t m now
after_command Modify t m now = modified false t m now
after_command ModifyStrict t m now = modified true t m now
after_command Delete t m now = deleted false t m
after_command DeleteStrict t m now = deleted true t m

-- a number that is no command's changes nothing
abbrev pub after_asked : Option Command → TableOf → FlowMod → ℕ → TableOf
after_asked None t m now = t
after_asked (Some command) t m now = after_command command t m now

-- the table after an accepted message at a moment
abbrev pub after : TableOf → FlowMod → ℕ → TableOf
after t m now = after_asked (command_at m.command) t m now
