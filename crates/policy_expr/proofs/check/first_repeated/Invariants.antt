use Rattle.std.proofs.Common.{◌≡◌, [], drop, take}
use Rattle.policy_expr.specs.Members.{first_repeated}
use Rattle.policy_expr.proofs.check.first_repeated.Given as goal

abbrev pub invariant-loop-i : goal.invariant-loop-i
invariant-loop-i l = first_repeated (take l.i l.names) (drop l.i l.names) ≡ first_repeated [] l.names
