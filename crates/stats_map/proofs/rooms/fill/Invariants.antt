use Rattle.std.proofs.Common.{◌≡◌, length}
use Rattle.stats_map.specs.Slots.{HasRoom, overlaid}
use Rattle.stats_map.proofs.rooms.fill.Given as goal

abbrev pub invariant-loop-last : goal.invariant-loop-last
invariant-loop-last g l =
    (overlaid g.K.Ord.cmp l.slots.entries l.map.entries
    ≡ overlaid g.K.Ord.cmp l.initial.slots.entries l.initial.map.entries)
    × HasRoom g.K.Ord.cmp l.slots.entries l.map.entries

abbrev pub decreases-loop-last : goal.decreases-loop-last
decreases-loop-last g l = length l.slots.entries
