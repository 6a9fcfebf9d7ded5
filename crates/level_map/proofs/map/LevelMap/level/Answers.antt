use Rattle.std.proofs.Common.{subst}
use Rattle.level_map.specs.Levels.{FollowsRanks}
use Rattle.level_map.proofs.Rising.{ranks_of_rising}
use Rattle.level_map.proofs.Properties.{follows}
use Rattle.level_map.proofs.map.LevelMap.level.Goals as goal

pub search-requires : goal.search-requires
search-requires c = rw c.deref.ensures.value (ranks_of_rising 0 2 _ _ c.self.invariant.rising)

pub returns-in-Ok-clause-orderly : goal.returns-in-Ok-clause-orderly
returns-in-Ok-clause-orderly c = subst FollowsRanks c.self.view_is
    (follows (record { size = c.self.inside.size; ranked = c.self.inside.ranked.items }) c.self.invariant.rising)

pub returns-in-Err-clause-orderly : goal.returns-in-Err-clause-orderly
returns-in-Err-clause-orderly c = subst FollowsRanks c.self.view_is
    (follows (record { size = c.self.inside.size; ranked = c.self.inside.ranked.items }) c.self.invariant.rising)
