use Rattle.std.proofs.Common.{◌≡◌}
use Rattle.install_plan.specs.InsideFinder.{AreKnown}
use Rattle.install_plan.specs.InsideSlots.{AreKept, as_is, table_by}
use Rattle.install_plan.proofs.slots.keep_all.Given as goal

abbrev pub invariant-loop-key : goal.invariant-loop-key
invariant-loop-key l =
    AreKept l.slots.entries l.key-iterator × (table_by as_is l.slots.entries ≡ table_by as_is l.initial.slots.entries)
    × AreKnown l.finder l.slots.entries
