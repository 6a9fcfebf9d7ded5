use Rattle.std.proofs.Common.{◌≡◌, true, take}
use Rattle.std.specs.Prelude.{IsSome}
use Rattle.std.specs.List.{list_any}
use Rattle.std.specs.Map.{keys_of}
use Rattle.cv_io.specs.Leaves.{same_leaf}
use Rattle.cv_io.specs.declared.leaf.Leaf.{Leaf}
use Rattle.stats_map.specs.InsideSums.{HaveMore, sum_at}
use Rattle.stats_map.specs.Pending.{slot_sums}
use Rattle.stats_map.proofs.slot_sums.open_slots.Given as goal

abbrev pub invariant-loop-leaf : goal.invariant-loop-leaf
invariant-loop-leaf l =
    HaveMore (slot_sums l.fn.slots.entries) (slot_sums l.slots.entries)
    × (keys_of l.slots.entries ≡ keys_of l.fn.slots.entries)
    × ((leaf : Leaf) → list_any (same_leaf leaf) (take l.leaf-index l.leaves) ≡ true
    → IsSome (sum_at leaf (slot_sums l.slots.entries)))
