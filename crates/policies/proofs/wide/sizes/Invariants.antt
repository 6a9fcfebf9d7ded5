use Rattle.std.proofs.Common.{◌≡◌, ◌++◌, map, drop}
use Rattle.policy_expr.specs.Policy.{policy_of}
use Rattle.policies.specs.Widths.{size}
use Rattle.policies.proofs.wide.sizes.Given as goal

abbrev pub invariant-loop-expr : goal.invariant-loop-expr
invariant-loop-expr l = l.sizes.items ++ map (size l.members) (map policy_of (drop l.expr-index l.exprs))
    ≡ map (size l.members) (map policy_of l.exprs)
