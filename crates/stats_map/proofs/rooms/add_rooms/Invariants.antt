use Rattle.std.proofs.Common.{◌≡◌}
use Rattle.stats_map.specs.Slots.{IsSameElsewhere, without}
use Rattle.stats_map.proofs.Making.{HasRoomBut}
use Rattle.stats_map.proofs.rooms.add_rooms.Given as goal

abbrev pub invariant-loop-key : goal.invariant-loop-key
invariant-loop-key g l =
    (without g.K.Ord.cmp l.made.items l.map.entries ≡ without g.K.Ord.cmp l.fn.made.items l.fn.map.entries)
    × IsSameElsewhere g.K.Ord.cmp l.slots.entries l.fn.map.entries l.map.entries
    × HasRoomBut g.K.Ord.cmp l.slots.entries l.key-iterator l.map.entries
