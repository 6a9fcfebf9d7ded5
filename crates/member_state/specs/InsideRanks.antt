-- Ranks of entries that go, and levels that ranks lose.
use Rattle.std.specs.Prelude.{◌≡◌, ℕ, ◌||◌, not, List, [], ◌∷◌, ◌++◌, Option, Some, None, filter, option_to_list}
use Rattle.std.specs.Prelude.{if◌then◌else◌}
use Rattle.std.specs.List.{list_any}
use Rattle.level_map.specs.Levels.{Levels}
use Rattle.level_map.specs.declared.ranked.Ranked.{Ranked}
use Rattle.member_table.specs.Changes.{is_among}
use Rattle.member_table.specs.Entries.{has_serial}
use Rattle.member_table.specs.Planning.{removing}
use Rattle.member_table.specs.Tables.{has_rank}
use Rattle.member_table.specs.declared.entry.Entry.{Entry}
use Rattle.member_state.specs.Plans.{ranks_of}
use Rattle.member_state.specs.States.{MemberStateOf}
use Rattle.member_state.specs.declared.planned.Planned.{Planned}

-- levels without those of these ranks that no entry has
abbrev pub without_unused : List Entry → List ℕ → Levels → Levels
without_unused es ranks l = record l {
  ranked = filter (λ (r : Ranked). list_any (has_rank r.rank) es || not (is_among ranks r.rank)) l.ranked;
}

-- the rank of an entry, if there is one and it has the number
abbrev pub rank_if_added : ℕ → Option Entry → Option ℕ
rank_if_added serial None = None
rank_if_added serial (Some e) = if has_serial serial e then Some e.rank else None

-- what is planned where the entries of these numbers go
abbrev pub removal_planned : MemberStateOf → List ℕ → Planned
removal_planned x serials = record {
  change = removing serials;
  ranks = ranks_of x.table.entries serials;
  dropped = [];
  touched = [];
  levels = x.levels;
}

-- what is planned, where the entry of a number goes too, whose rank is this one if a table has it
abbrev pub drop_planned : ℕ → Option ℕ → Planned → Planned
drop_planned serial rank p = record p {
  ranks = p.ranks ++ (option_to_list rank ++ option_to_list (rank_if_added serial p.change.added));
  dropped = p.dropped ++ serial ∷ [];
}

-- the same is planned, with more ranks whose entries may go
pub record HasMoreRanks (old new : Planned) : Type 0 where
  pub more : List ℕ
  pub is : new ≡ record old { ranks = old.ranks ++ more }
