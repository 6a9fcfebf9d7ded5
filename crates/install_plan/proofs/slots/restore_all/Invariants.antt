use Rattle.std.proofs.Common.{◌≡◌, length}
use Rattle.install_plan.specs.InsideFinder.{AreKnown}
use Rattle.install_plan.specs.InsideSlots.{AreKept, as_saved, table_by}
use Rattle.install_plan.proofs.slots.restore_all.Given as goal

abbrev pub invariant-loop-key : goal.invariant-loop-key
invariant-loop-key l =
    AreKept l.slots.entries l.saved.entries
    × (table_by (as_saved l.saved.entries) l.slots.entries
    ≡ table_by (as_saved l.initial.saved.entries) l.initial.slots.entries)
    × AreKnown l.finder l.slots.entries

abbrev pub decreases-loop-key : goal.decreases-loop-key
decreases-loop-key l = length l.saved.entries
