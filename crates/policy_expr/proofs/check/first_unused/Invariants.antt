use Rattle.std.proofs.Common.{◌≡◌, drop}
use Rattle.policy_expr.specs.Members.{first_unused}
use Rattle.policy_expr.proofs.check.first_unused.Given as goal

abbrev pub invariant-loop-member : goal.invariant-loop-member
invariant-loop-member l = first_unused l.names (drop l.member-index l.members) ≡ first_unused l.names l.members
