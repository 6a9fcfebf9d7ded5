use Rattle.std.proofs.Common.{◌∙◌, sym, add-one, false, arith}
use Rattle.policy_expr.proofs.Lefts.{first_left_end, first_left_more}
use Rattle.policy_expr.proofs.check.first_left.Goals as goal

pub loop-i-preserved : goal.loop-i-preserved
loop-i-preserved c =
    rw (add-one c.loop-i.i) (first_left_more c.args.members.now c.args.leaves.now c.args.names.now c.loop-i.i false
    c.index-names-i.result (omega arith) (omega arith)
    (rw (← c.index-names-i.is) (sym c.is_refused.ensures ∙ c.if-is_refused.false)) ∙ c.loop-i.invariant)

pub returns : goal.returns
returns c = sym (first_left_end _ _ _ c.loop-i.i (omega arith)) ∙ c.loop-i.invariant
