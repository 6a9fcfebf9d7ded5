-- When a message is refused.
use Rattle.std.specs.Prelude.{◌≡◌, ℕ, ◌&&◌, not, nat_le, min, Bool, true, false, List, [], ◌∷◌, length, map, filter}
use Rattle.std.specs.Prelude.{Option, Some, None, if◌then◌else◌}
use Rattle.std.specs.List.{list_any}
use Rattle.of10_msgs.specs.Commands.{command_at}
use Rattle.of10_msgs.specs.declared.message.FlowMod.{FlowMod}
use Rattle.member_table.specs.Entries.{identity_of, is_at, is_near, same_identity}
use Rattle.member_table.specs.Tables.{TableOf, identity_in, is_meant}
use Rattle.of10_msgs.specs.declared.command.Command.{Command}
use Rattle.of10_msgs.specs.declared.command.Command.TheVariants.{Add, Modify, ModifyStrict, Delete, DeleteStrict}
use Rattle.member_table.specs.declared.entry.Entry.{Entry}
use Rattle.member_table.specs.declared.entry.Identity.{Identity}
use Rattle.member_table.specs.declared.fault.TableFault.{TableFault}
use Rattle.member_table.specs.declared.fault.TableFault.TheVariants.{Overlap, Entries, Memory}

-- the least of some numbers
abbrev pub lesser_of : ℕ → Option ℕ → ℕ
lesser_of n None = n
lesser_of n (Some k) = min n k

abbrev pub least : List ℕ → Option ℕ
least [] = None
least (n ∷ ns) = Some (lesser_of n (least ns))

-- an entry of equal rank has another match that overlaps
abbrev pub is_overlapped : Identity → Entry → Bool
is_overlapped new e = is_near new (identity_of e) && not (same_identity new (identity_of e))

-- the least serial number of an entry that a new one overlaps
abbrev pub overlapped : Identity → List Entry → Option ℕ
overlapped new es = least (map (λ e. e.serial) (filter (is_overlapped new) es))

-- a table holds as many entries as it may, and none that a new one would replace
abbrev pub is_full : Identity → TableOf → Bool
is_full new t = nat_le t.limit (length t.entries) && not (list_any (is_at new) t.entries)

-- why an entry can't be added
abbrev pub refusal_by : Option ℕ → Identity → TableOf → Option TableFault
refusal_by (Some serial) new t = Some (Overlap serial)
refusal_by None new t = if is_full new t then Some (Entries t.limit) else None

abbrev pub refusal_of : Identity → TableOf → Option TableFault
refusal_of new t = refusal_by (overlapped new t.entries) new t

-- why a MODIFY is refused: where it means no entry, it adds one
abbrev pub refusal_unless : Bool → TableOf → FlowMod → Option TableFault
refusal_unless strict t m = if list_any (is_meant strict (identity_in m)) t.entries then None
    else refusal_of (identity_in m) t

-- why a command is refused
abbrev pub refusal_by_command : Command → TableOf → FlowMod → Option TableFault
refusal_by_command Add t m = refusal_of (identity_in m) t
refusal_by_command Modify t m = refusal_unless false t m
refusal_by_command ModifyStrict t m = refusal_unless true t m
refusal_by_command Delete t m = None
refusal_by_command DeleteStrict t m = None

-- a number that is no command's is refused by no table
abbrev pub refusal_asked : Option Command → TableOf → FlowMod → Option TableFault
refusal_asked None t m = None
refusal_asked (Some command) t m = refusal_by_command command t m

-- why a message is refused
abbrev pub refusal : TableOf → FlowMod → Option TableFault
refusal t m = refusal_asked (command_at m.command) t m

-- a fault is the refusal's, unless memory ran out
abbrev pub IsFaultOf : Option TableFault → TableFault → Type 0
IsFaultOf refused Memory = Unit {0}
IsFaultOf refused fault = refused ≡ Some fault
