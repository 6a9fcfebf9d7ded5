use Rattle.made_rules.proofs.SameRules.{rule_decides}
use Rattle.made_rules.proofs.laws.rules_are_told.Goals as goal

pub returns : goal.returns
returns c = rule_decides
