-- Plans as a member's state makes them: what changes is then told without a look at the whole table.
use Rattle.std.specs.Prelude.{◌≡◌, ◌==◌, ℕ, true, Some, is_some, map}
use Rattle.std.specs.List.{IsDistinct, list_any}
use Rattle.level_map.specs.Levels.{Levels, level_of}
use Rattle.of10_msgs.specs.declared.message.FlowMod.{FlowMod}
use Rattle.member_table.specs.Changes.{is_among, replaced}
use Rattle.member_table.specs.Planning.{change_of}
use Rattle.member_table.specs.Sound.{IsSound}
use Rattle.member_table.specs.Tables.{has_rank}
use Rattle.member_table.specs.declared.change.Modified.{Modified}
use Rattle.member_state.specs.Changes.{accepted, levels_with}
use Rattle.member_state.specs.Plans.{after_planned, planned_table}
use Rattle.member_state.specs.States.{MemberStateOf}
use Rattle.member_state.specs.declared.planned.Planned.{Planned}

-- the entry whose place the one that comes takes is named among those that go; no entry gets other actions twice; there
-- are as many levels, and the rank of each entry that is then there has the level that it had, or the one that placing
-- the rank of the entry that comes gives it
pub record IsPlanOf (x : MemberStateOf) (p : Planned) : Type 0 where
  pub named : (n : ℕ) → replaced p.change.added x.table.entries ≡ Some n → is_among p.change.removed n ≡ true
  pub once : IsDistinct ◌==◌ (map (λ (m : Modified). m.serial) p.change.modified)
  pub size : p.levels.size ≡ x.levels.size
  pub placed : (rank : ℕ) → list_any (has_rank rank) (planned_table x.table p).entries ≡ true
      → level_of p.levels rank ≡ level_of (levels_with p.change.added x.levels) rank

-- each rank that had a level has it
abbrev pub KeepsLevels : Levels → Levels → Type 0
KeepsLevels old new = (rank : ℕ) → is_some (level_of old rank) ≡ true → level_of new rank ≡ level_of old rank

-- what judging a message plans is so
abbrev pub MessagesArePlans : Type 0
MessagesArePlans =
    (x : MemberStateOf) (m : FlowMod) (p : Planned) (now : ℕ) → IsSound x.table → p.change ≡ change_of x.table m now
    → after_planned x p now ≡ accepted m now x → IsPlanOf x p
