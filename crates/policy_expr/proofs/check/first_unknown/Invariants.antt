use Rattle.std.proofs.Common.{◌≡◌, drop}
use Rattle.policy_expr.specs.Members.{first_unknown}
use Rattle.policy_expr.proofs.check.first_unknown.Given as goal

abbrev pub invariant-loop-name : goal.invariant-loop-name
invariant-loop-name l = first_unknown l.members (drop l.name-index l.names) ≡ first_unknown l.members l.names
