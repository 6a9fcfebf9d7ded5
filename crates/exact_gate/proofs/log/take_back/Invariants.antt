use Rattle.std.proofs.Common.{length}
use Rattle.exact_gate.specs.InsideLogs.{turned_back}
use Rattle.exact_gate.specs.Standing.{HaveSame}
use Rattle.exact_gate.proofs.log.take_back.Given as goal

-- what stood before stays
abbrev pub invariant-loop-entry : goal.invariant-loop-entry
invariant-loop-entry l = HaveSame (turned_back l.initial.pool l.initial.log) (turned_back l.pool l.log)

abbrev pub decreases-loop-entry : goal.decreases-loop-entry
decreases-loop-entry l = length l.log.come
