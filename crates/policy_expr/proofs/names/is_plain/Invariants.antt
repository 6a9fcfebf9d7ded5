use Rattle.std.proofs.Common.{◌≡◌, drop}
use Rattle.policy_expr.specs.Members.{is_plain}
use Rattle.policy_expr.proofs.names.is_plain.Given as goal

abbrev pub invariant-loop-member : goal.invariant-loop-member
invariant-loop-member l = is_plain (drop l.member-index l.members) l.name ≡ is_plain l.members l.name
