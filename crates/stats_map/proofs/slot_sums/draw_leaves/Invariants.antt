use Rattle.std.proofs.Common.{take}
use Rattle.cv_io.specs.Leaves.{leaf_cmp}
use Rattle.stats_map.specs.Slots.{AreDrawn}
use Rattle.stats_map.specs.Pending.{HaveSlots}
use Rattle.stats_map.proofs.slot_sums.draw_leaves.Given as goal

abbrev pub invariant-loop-leaf : goal.invariant-loop-leaf
invariant-loop-leaf l =
    AreDrawn leaf_cmp l.base.entries l.fn.slots.entries l.slots.entries
    × HaveSlots (take l.leaf-index l.leaves) l.slots.entries
