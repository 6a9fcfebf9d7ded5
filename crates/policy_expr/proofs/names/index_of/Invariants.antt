use Rattle.std.proofs.Common.{◌≡◌, drop}
use Rattle.policy_expr.specs.Members.{index_of}
use Rattle.policy_expr.proofs.names.index_of.Given as goal

abbrev pub invariant-loop-member : goal.invariant-loop-member
invariant-loop-member l = index_of (drop l.member-index l.members) l.name ≡ index_of l.members l.name
