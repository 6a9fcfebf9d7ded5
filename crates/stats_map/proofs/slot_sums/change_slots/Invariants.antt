use Rattle.std.proofs.Common.{◌≡◌, take}
use Rattle.std.specs.Map.{keys_of}
use Rattle.stats_map.specs.InsideSums.{HappenedTo}
use Rattle.stats_map.specs.Pending.{slot_sums}
use Rattle.stats_map.proofs.slot_sums.change_slots.Given as goal

abbrev pub invariant-loop-place : goal.invariant-loop-place
invariant-loop-place l =
    HappenedTo l.event (take l.place l.leaves) (slot_sums l.fn.slots.entries) (slot_sums l.slots.entries)
    × (keys_of l.slots.entries ≡ keys_of l.fn.slots.entries)
