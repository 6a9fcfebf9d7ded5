-- What becomes of a member's table and its levels.
use Rattle.std.specs.Prelude.{◌≡◌, ℕ, Bool, ◌==◌, ◌%◌, not, nat_le, List, [], ◌∷◌, Option, Some, None, find, filter}
use Rattle.std.specs.Prelude.{filter_map, map, if◌then◌else◌}
use Rattle.std.specs.List.{list_any}
use Rattle.of10_msgs.specs.declared.message.FlowMod.{FlowMod}
use Rattle.grants.specs.Rows.{is_delete}
use Rattle.level_map.specs.Levels.{Levels}
use Rattle.level_map.specs.Placing.{placing}
use Rattle.level_map.specs.declared.ranked.Ranked.{Ranked}
use Rattle.member_table.specs.Changes.{is_among}
use Rattle.member_table.specs.Entries.{has_serial}
use Rattle.member_table.specs.Planning.{change_of}
use Rattle.member_table.specs.Tables.{TableOf, after, has_rank}
use Rattle.member_table.specs.Timeouts.{serials_of, without_expired}
use Rattle.member_table.specs.declared.entry.Entry.{Entry}
use Rattle.member_state.specs.States.{MemberStateOf}

-- the levels of the ranks that these entries have
abbrev pub levels_kept : List Entry → Levels → Levels
levels_kept es l = record l { ranked = filter (λ (r : Ranked). list_any (has_rank r.rank) es) l.ranked }

-- a state with another table: a rank whose last entry went has no level any more, and the others keep theirs
abbrev pub with_table : TableOf → MemberStateOf → MemberStateOf
with_table t x = record { table = t; levels = levels_kept t.entries x.levels }

-- levels with one for the rank of the entry that comes
abbrev pub levels_with : Option Entry → Levels → Levels
levels_with None l = l
levels_with (Some e) l = (placing l e.rank).1

-- the state after an accepted message at a moment
abbrev pub accepted : FlowMod → ℕ → MemberStateOf → MemberStateOf
accepted m now x =
    with_table (after x.table m now) (record x { levels = levels_with (change_of x.table m now).added x.levels })

-- the state without the entries that have stood for their hard timeouts at a moment
abbrev pub expired : ℕ → MemberStateOf → MemberStateOf
expired now x = with_table (without_expired now x.table) x

-- the table without the entry of a number
abbrev pub table_without : ℕ → TableOf → TableOf
table_without serial t = record t { entries = filter (λ e. not (has_serial serial e)) t.entries }

-- the state without the entry of a number
abbrev pub without : ℕ → MemberStateOf → MemberStateOf
without serial x = with_table (table_without serial x.table) x

-- an entry whose count was seen to have risen, if it is the one of the number
abbrev pub entry_touched : ℕ → ℕ → Entry → Entry
entry_touched serial now e = if has_serial serial e then record e { last = now } else e

-- the state where the count of the entry of a number was seen to have risen at a moment
abbrev pub touched : ℕ → ℕ → MemberStateOf → MemberStateOf
touched serial now x = record x { table = record x.table { entries = map (entry_touched serial now) x.table.entries } }

-- the entries of these numbers, in the order of the numbers
abbrev pub entries_of : List Entry → List ℕ → List Entry
entries_of es serials = filter_map (λ serial. find (has_serial serial) es) serials

-- the flag SEND_FLOW_REM: the member asks to be told when the entry is removed
abbrev pub is_told : Entry → Bool
is_told e = e.flags % 2 == 1

-- the entries that an accepted message removes: one that is replaced isn't removed
abbrev pub removed_by : FlowMod → MemberStateOf → List Entry
removed_by m x = if is_delete m.command then entries_of x.table.entries (change_of x.table m 0).removed else []

-- what a message removes is the same at every moment
abbrev pub RemovalsAreTimeless : Type 0
RemovalsAreTimeless =
    (t : TableOf) (m : FlowMod) (one other : ℕ) → (change_of t m one).removed ≡ (change_of t m other).removed

-- numbers with one more, where they rise
abbrev pub inserted : ℕ → List ℕ → List ℕ
inserted n [] = n ∷ []
inserted n (k ∷ ks) = if nat_le n k then n ∷ k ∷ ks else k ∷ inserted n ks

-- numbers in rising order
abbrev pub rising : List ℕ → List ℕ
rising [] = []
rising (n ∷ ns) = inserted n (rising ns)

-- the numbers of the entries that pass a test, rising
abbrev pub rising_serials : (Entry → Bool) → List Entry → List ℕ
rising_serials test es = rising (serials_of test es)
