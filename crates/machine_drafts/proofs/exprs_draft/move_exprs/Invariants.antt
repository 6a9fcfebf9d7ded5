use Rattle.std.proofs.Common.{◌≡◌, map}
use Rattle.policy_expr.specs.Policy.{policy_of}
use Rattle.machine_drafts.specs.ExprsDrafts.{replaced_in}
use Rattle.machine_drafts.proofs.exprs_draft.move_exprs.Given as goal

abbrev pub invariant-loop-one : goal.invariant-loop-one
invariant-loop-one l = map policy_of l.exprs ≡ replaced_in l.yielded (map policy_of l.fn.exprs)
