use Rattle.std.proofs.Common.{◌≡◌, length}
use Rattle.std.specs.Map.{values_of}
use Rattle.stats_map.specs.Counting.{all_ended, downed, of_switch}
use Rattle.stats_map.specs.InsideSums.{AreSums, seen}
use Rattle.stats_map.proofs.cookies.end_all.Given as goal

abbrev pub invariant-loop-place : goal.invariant-loop-place
invariant-loop-place l =
    AreSums (values_of l.live.entries) l.sums.entries
    × (all_ended (of_switch l.switch l.live.entries) (seen l.live.entries l.sums.entries)
    ≡ downed l.switch (seen l.initial.live.entries l.initial.sums.entries))

abbrev pub decreases-loop-place : goal.decreases-loop-place
decreases-loop-place l = length l.live.entries
