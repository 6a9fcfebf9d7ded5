-- The entries that change with what is planned.
use Rattle.std.specs.Prelude.{ℕ, ◌+◌, ◌^◌, ◌||◌, Bool, nat_lt, List, ◌++◌, filter_map, find, map, Option, Some, None}
use Rattle.std.specs.Prelude.{option_map, option_to_list, if◌then◌else◌}
use Rattle.member_table.specs.Changes.{is_among}
use Rattle.member_table.specs.Entries.{has_serial}
use Rattle.member_table.specs.Tables.{with_actions}
use Rattle.member_table.specs.declared.change.Modified.{Modified}
use Rattle.member_table.specs.declared.entry.Entry.{Entry}
use Rattle.member_state.specs.declared.planned.Planned.{Planned}

-- the number of an entry, if there is one
abbrev pub number_of : Option Entry → Option ℕ
number_of None = None
number_of (Some e) = Some e.serial

-- the numbers of the entries that go, get other actions, or come
abbrev pub touched_in : Planned → List ℕ
touched_in p =
    ((p.change.removed ++ p.dropped) ++ map (λ (m : Modified). m.serial) p.change.modified)
    ++ option_to_list (number_of p.change.added)

-- the number leaves room for the kind of its leaf
abbrev pub has_kind : ℕ → Bool
has_kind serial = nat_lt (2 + serial) (2 ^ 64)

-- the entry of the number goes, before another comes or afterwards
abbrev pub goes : Planned → ℕ → Bool
goes p serial = is_among p.change.removed serial || is_among p.dropped serial

-- the entry of these that gets the other actions, with them, if it is there and stays
abbrev pub changed_in : List Entry → Planned → Modified → Option Entry
changed_in es p m =
    if goes p m.serial then None else option_map (with_actions m.actions) (find (has_serial m.serial) es)

-- an entry that comes, if one does and isn't among those that go afterwards
abbrev pub staying : List ℕ → Option Entry → Option Entry
staying dropped None = None
staying dropped (Some e) = if is_among dropped e.serial then None else Some e

-- the entries that come or get other actions, as they are then
abbrev pub coming_in : List Entry → Planned → List Entry
coming_in es p = filter_map (changed_in es p) p.change.modified ++ option_to_list (staying p.dropped p.change.added)
