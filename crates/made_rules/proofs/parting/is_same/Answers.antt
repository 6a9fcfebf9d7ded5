use Rattle.std.proofs.Common.{◌≡◌, false, sym, true, ◌∙◌}
use Rattle.std.proofs.lemmas.Bool.{both_ways}
use Rattle.made_rules.proofs.SameRules.{rule_decides}
use Rattle.made_rules.proofs.parting.is_same.Goals as goal

pub returns-clause-same : goal.returns-clause-same
returns-clause-same c e = (rule_decides c.args.a.now c.args.b.now).0 (sym c.eq.ensures ∙ e)

pub returns-clause-other : goal.returns-clause-other
returns-clause-other c e s = both_ways c.eq.result e (c.eq.ensures ∙ (rule_decides c.args.a.now c.args.b.now).1 s)
