use Rattle.std.proofs.Common.{◌≡◌, ◌++◌, Ok, map, drop}
use Rattle.std.specs.List.{enumerate_from}
use Rattle.policy_expr.specs.Policy.{policy_of}
use Rattle.policies.specs.Exprs.{all_of, expr_of, exprs_of}
use Rattle.policies.specs.Outcomes.{then_do}
use Rattle.policies.proofs.switch_exprs.exprs.Given as goal

abbrev pub invariant-loop-v : goal.invariant-loop-v
invariant-loop-v l = then_do (all_of (expr_of l.members) (drop l.v (enumerate_from 0 l.virtuals)))
    (λ rest. Ok (map policy_of l.exprs ++ rest)) ≡ exprs_of l.virtuals l.members
