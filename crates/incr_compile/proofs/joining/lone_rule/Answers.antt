use Rattle.std.proofs.Common.{sym, ap, ◌∙◌, Some}
use Rattle.incr_compile.proofs.Joins.{lone-in}
use Rattle.incr_compile.proofs.joining.lone_rule.Goals as goal

pub returns-clause-rule : goal.returns-clause-rule
returns-clause-rule g c =
    ap Some c.in_ok-lift.ensures.rule
    ∙ sym (lone-in c.args.op c.args.a.now.tail c.args.a.now.touched c.args.size c.args.a.now
    (sym c.stays_out.ensures ∙ c.if-stays_out.false) c.requires.alone)
