use Rattle.std.proofs.Common.{◌≡◌, drop, map}
use Rattle.policy_expr.specs.Members.{is_among}
use Rattle.policy_expr.proofs.names.is_member.Given as goal

abbrev pub invariant-loop-member : goal.invariant-loop-member
invariant-loop-member l = is_among (map (λ m. m.name) (drop l.member-index l.members)) l.name
    ≡ is_among (map (λ m. m.name) l.members) l.name
