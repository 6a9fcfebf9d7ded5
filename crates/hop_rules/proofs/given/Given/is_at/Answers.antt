use Rattle.std.proofs.Common.{◌≡◌, ◌∙◌, Some, ap, sym, true, false}
use Rattle.made_rules.proofs.SameRules.{rule_decides}
use Rattle.hop_rules.proofs.given.Given.is_at.Goals as goal

pub returns-in-Some-clause-yes : goal.returns-in-Some-clause-yes
returns-in-Some-clause-yes c e = sym c.in-Some.ensures.rule
    ∙ ap Some ((rule_decides c.in-Some.found.now c.args.rule.now).0 (sym c.eq.ensures ∙ e))

pub returns-in-Some-clause-no : goal.returns-in-Some-clause-no
returns-in-Some-clause-no c e s =
    let t : Some c.in-Some.found.now ≡ Some c.args.rule.now = c.in-Some.ensures.rule ∙ s in
    let same : c.in-Some.found.now ≡ c.args.rule.now = cc in
    let w : false ≡ true = sym e ∙ (c.eq.ensures ∙ (rule_decides c.in-Some.found.now c.args.rule.now).1 same) in cc
