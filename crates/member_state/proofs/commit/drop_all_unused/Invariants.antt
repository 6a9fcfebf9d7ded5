use Rattle.std.proofs.Common.{◌≡◌, drop}
use Rattle.level_map.specs.InsidePlaces.{RanksRise}
use Rattle.member_state.specs.InsideRanks.{without_unused}
use Rattle.member_state.proofs.commit.drop_all_unused.Given as goal

-- the ranks that are left, dropped, give what all give
abbrev pub invariant-loop-rank : goal.invariant-loop-rank
invariant-loop-rank l = record {
  rise : RanksRise 0 l.levels.ranked;
  rest : without_unused l.table.table.entries (drop l.rank-index l.ranks) l.levels
      ≡ without_unused l.table.table.entries l.ranks l.initial.levels;
}
