-- Which leaves are forgotten, entry by entry.
use Rattle.std.specs.Prelude.{ℕ, Bool, ◌==◌, ◌&&◌, ◌||◌, List, fold, if◌then◌else◌, not, slice_get}
use Rattle.std.specs.List.{list_any}
use Rattle.member_table.specs.Entries.{has_serial}
use Rattle.member_table.specs.declared.entry.Entry.{Entry}
use Rattle.stats_map.specs.Counting.{CountsOf, forgot}
use Rattle.machine_meaning.specs.Counted.{leaf_at, leaf_of}
use Rattle.machine_drafts.specs.MemberDrafts.{MemberDraftOf}
use Rattle.machine_meaning.specs.Settling.{entries_at}
use Rattle.machine_meaning.specs.States.{MemberOf}
use Rattle.machine_meaning.specs.declared.state.Owed.{Owed}

-- the FLOW_REMOVED of the entry of a member is owed
abbrev pub is_owed : ℕ → ℕ → Owed → Bool
is_owed n serial o = (n == o.member) && (serial == o.entry.serial)

-- the entry of a member still matters: it is one of these, or its FLOW_REMOVED is owed
abbrev pub matters : List Entry → List Owed → ℕ → ℕ → Bool
matters es owed n serial = list_any (has_serial serial) es || list_any (is_owed n serial) owed

-- the leaf of an entry is forgotten, unless it still matters
abbrev pub forget_entry : List Entry → List Owed → ℕ → CountsOf → Entry → CountsOf
forget_entry es owed n counts e = if matters es owed n e.serial then counts else forgot (leaf_of n e) counts

-- the leaf of an entry that went is forgotten, if the table had it, unless its FLOW_REMOVED is owed
abbrev pub forget_serial : List Entry → List Owed → ℕ → CountsOf → ℕ → CountsOf
forget_serial had owed n counts serial =
    if list_any (has_serial serial) had && not (list_any (is_owed n serial) owed) then forgot (leaf_at n serial) counts
    else counts

-- the leaves of the entries of a member of a number, as they stood
abbrev pub forget_member : List Owed → CountsOf → ℕ × MemberDraftOf → CountsOf
forget_member owed counts (n, x) =
    fold (forget_entry x.now.kept.table.entries owed n) counts x.base.kept.state.table.entries

-- the leaf of an entry whose FLOW_REMOVED was owed
abbrev pub forget_owed : List MemberOf → List Owed → CountsOf → Owed → CountsOf
forget_owed members owed counts o =
    forget_entry (entries_at (slice_get members o.member)) owed o.member counts o.entry
