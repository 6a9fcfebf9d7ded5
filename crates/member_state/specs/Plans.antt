-- What an event changes in a member's state, before it is changed.
use Rattle.std.specs.Prelude.{◌≡◌, ℕ, Bool, true, not, ◌||◌, List, is_some, filter, filter_map, find, map, option_map}
use Rattle.std.specs.Prelude.{if◌then◌else◌}
use Rattle.std.specs.List.{list_any}
use Rattle.level_map.specs.Levels.{IsLevelling, level_of}
use Rattle.member_table.specs.Changes.{CanCommit, committed, is_among}
use Rattle.member_table.specs.Entries.{has_serial}
use Rattle.member_table.specs.Tables.{TableOf, has_rank}
use Rattle.member_table.specs.declared.entry.Entry.{Entry}
use Rattle.member_state.specs.Changes.{with_table}
use Rattle.member_state.specs.States.{HeldState, MemberStateOf, held_table}
use Rattle.member_state.specs.declared.planned.Planned.{Planned}

-- a table without the entries of these numbers
abbrev pub without_all : List ℕ → TableOf → TableOf
without_all serials t = record t { entries = filter (λ (e : Entry). not (is_among serials e.serial)) t.entries }

-- an entry whose count was seen to have risen, if its number is one of these
abbrev pub touched_among : List ℕ → ℕ → Entry → Entry
touched_among serials now e = if is_among serials e.serial then record e { last = now } else e

-- a state in which the counts of the entries of these numbers were seen to have risen at a moment
abbrev pub touched_all : List ℕ → ℕ → MemberStateOf → MemberStateOf
touched_all serials now x = record x {
  table = record x.table { entries = map (touched_among serials now) x.table.entries };
}

-- the table after what is planned, but for the counts that were seen to have risen
abbrev pub planned_table : TableOf → Planned → TableOf
planned_table t p = without_all p.dropped (committed t p.change)

-- the state after what is planned, at a moment
abbrev pub after_planned : MemberStateOf → Planned → ℕ → MemberStateOf
after_planned x p now =
    touched_all p.touched now (with_table (planned_table x.table p) (record x { levels = p.levels }))

-- the ranks of the entries of these numbers
abbrev pub ranks_of : List Entry → List ℕ → List ℕ
ranks_of es serials = filter_map (λ serial. option_map (λ (e : Entry). e.rank) (find (has_serial serial) es)) serials

-- what is planned can be made: the change can, levels lie in the order of ranks, each rank of an entry that is there
-- then has a level, and each rank with a level has an entry then or is one of those whose entries may have gone
pub record IsReady (h : HeldState) (p : Planned) : Type 0 where
  pub change : CanCommit (held_table h) p.change
  pub levels : IsLevelling p.levels.size p.levels.ranked
  pub levelled :
      (rank : ℕ) → list_any (has_rank rank) (planned_table h.state.table p).entries ≡ true
      → is_some (level_of p.levels rank) ≡ true
  pub left :
      (rank : ℕ) → is_some (level_of p.levels rank) ≡ true
      → (list_any (has_rank rank) (planned_table h.state.table p).entries || is_among p.ranks rank) ≡ true
