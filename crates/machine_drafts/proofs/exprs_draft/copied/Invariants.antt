use Rattle.std.proofs.Common.{◌≡◌, map, take}
use Rattle.policy_expr.specs.Policy.{policy_of}
use Rattle.machine_drafts.proofs.exprs_draft.copied.Given as goal

abbrev pub invariant-loop-expr : goal.invariant-loop-expr
invariant-loop-expr l = map policy_of l.copied ≡ map policy_of (take l.expr-index l.exprs)
