use Rattle.std.proofs.Common.{◌≡◌, drop, map}
use Rattle.policy_expr.specs.Policy.{policy_of}
use Rattle.machine_drafts.specs.ExprsDrafts.{replaced_in}
use Rattle.machine_drafts.proofs.exprs_draft.set_copies.Given as goal

abbrev pub invariant-loop-one : goal.invariant-loop-one
invariant-loop-one l =
    replaced_in (drop l.one-index l.replaced) (map policy_of l.exprs)
    ≡ replaced_in l.replaced (map policy_of l.fn.exprs)
