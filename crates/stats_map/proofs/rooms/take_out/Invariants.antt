use Rattle.std.proofs.Common.{◌≡◌}
use Rattle.stats_map.specs.Slots.{without}
use Rattle.stats_map.proofs.rooms.take_out.Given as goal

abbrev pub invariant-loop-key : goal.invariant-loop-key
invariant-loop-key g l = without g.K.Ord.cmp l.made.items l.map.entries
    ≡ without g.K.Ord.cmp l.initial.made.items l.initial.map.entries

abbrev pub decreases-loop-key : goal.decreases-loop-key
decreases-loop-key g l = goal.left-loop-key g l
