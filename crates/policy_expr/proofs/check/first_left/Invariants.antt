use Rattle.std.proofs.Common.{◌≡◌, drop}
use Rattle.policy_expr.specs.Members.{first_left}
use Rattle.policy_expr.proofs.check.first_left.Given as goal

abbrev pub invariant-loop-i : goal.invariant-loop-i
invariant-loop-i l = first_left l.members (drop l.i l.leaves) (drop l.i l.names) ≡ first_left l.members l.leaves l.names
