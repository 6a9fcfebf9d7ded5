use Rattle.std.proofs.Common.{◌≡◌, [], length}
use Rattle.exact_gate.specs.InsideLogs.{turned_back}
use Rattle.exact_gate.specs.Standing.{HaveSame}
use Rattle.exact_gate.proofs.log.restore.Given as goal

-- what stood before stays
abbrev pub invariant-loop-pool : goal.invariant-loop-pool
invariant-loop-pool l = record {
  same : HaveSame (turned_back l.initial.pool l.initial.log) (turned_back l.pool l.log);
  come : l.log.come ≡ [];
}

abbrev pub decreases-loop-pool : goal.decreases-loop-pool
decreases-loop-pool l = length l.log.gone
