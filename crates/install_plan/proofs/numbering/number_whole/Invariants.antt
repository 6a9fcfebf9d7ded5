use Rattle.std.proofs.Common.{drop}
use Rattle.install_plan.proofs.Whole.{IsRenumbered}
use Rattle.install_plan.proofs.numbering.number_whole.Given as goal

abbrev pub invariant-loop-written : goal.invariant-loop-written
invariant-loop-written l = IsRenumbered l.fn.slots.entries l.saved.entries l.written-items
    (drop l.written-index l.written-items) l.slots.entries
