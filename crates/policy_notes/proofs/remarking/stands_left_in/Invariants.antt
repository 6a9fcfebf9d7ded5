use Rattle.std.proofs.Common.{◌≡◌, drop, map}
use Rattle.std.specs.List.{list_any}
use Rattle.policy_expr.specs.Policy.{policy_of}
use Rattle.policy_notes.specs.Remarks.{stands_left}
use Rattle.policy_notes.proofs.remarking.stands_left_in.Given as goal

abbrev pub invariant-loop-expr : goal.invariant-loop-expr
invariant-loop-expr l =
    list_any (stands_left l.n) (map policy_of (drop l.expr-index l.exprs)) ≡ list_any (stands_left l.n) (map policy_of l.exprs)
