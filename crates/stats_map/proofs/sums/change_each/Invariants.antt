use Rattle.std.proofs.Common.{take}
use Rattle.stats_map.specs.InsideSums.{HappenedTo}
use Rattle.stats_map.proofs.sums.change_each.Given as goal

abbrev pub invariant-loop-place : goal.invariant-loop-place
invariant-loop-place l = HappenedTo l.event (take l.place l.leaves) l.fn.sums.entries l.sums.entries
