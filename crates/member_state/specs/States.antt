-- A member's table with the levels of its ranks.
use Rattle.std.specs.Prelude.{◌≡◌, ℕ, ◌^◌, List, [], is_some}
use Rattle.std.specs.List.{list_any}
use Rattle.level_map.specs.Levels.{IsLevelling, Levels, level_of}
use Rattle.member_table.specs.Sound.{IsSound}
use Rattle.member_table.specs.Tables.{TableOf, Held, has_rank}
use Rattle.member_table.specs.declared.entry.Entry.{Entry}

-- a member's table, and the levels of the ranks that its entries have
pub record MemberStateOf : Type 0 where
  pub table : TableOf
  pub levels : Levels

-- such a state, and for how many more entries there is memory
pub record HeldState : Type 0 where
  pub state : MemberStateOf
  pub room : ℕ

-- its table, and for how many more entries there is memory
abbrev pub held_table : HeldState → Held
held_table h = record { table = h.state.table; room = h.room }

-- the state of a table and of levels
abbrev pub held_by : Held → Levels → HeldState
held_by t l = record { state = record { table = t.table; levels = l }; room = t.room }

-- as it opens: no entries, 2 to the power of the bits levels, and so many entries at most
abbrev pub opening : ℕ → ℕ → MemberStateOf
opening bits limit = record {
  table = record { entries = []; next = 1; limit = limit };
  levels = record { size = 2 ^ bits; ranked = [] };
}

-- exactly the ranks of these entries have a level
abbrev pub AreLevelled : List Entry → Levels → Type 0
AreLevelled es l = (rank : ℕ) → is_some (level_of l rank) ≡ list_any (has_rank rank) es

-- what every member's state keeps: levels lie from 2 to the last one in the order of ranks, and are those of the ranks
-- of its entries
pub record IsKept (x : MemberStateOf) : Type 0 where
  pub levels : IsLevelling x.levels.size x.levels.ranked
  pub ranks : AreLevelled x.table.entries x.levels

-- what is true of every member's state: so it is kept, and its table is sound
pub record IsSoundState (x : MemberStateOf) : Type 0 where
  pub table : IsSound x.table
  pub kept : IsKept x
