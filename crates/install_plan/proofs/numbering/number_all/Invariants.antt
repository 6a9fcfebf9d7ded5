use Rattle.install_plan.proofs.Progress.{IsNumbered}
use Rattle.install_plan.proofs.numbering.number_all.Given as goal

abbrev pub invariant-loop-key : goal.invariant-loop-key
invariant-loop-key l = IsNumbered l.fn.slots.entries l.saved.entries l.fn.next l.key-iterator l.slots.entries l.batch
    l.cookie
