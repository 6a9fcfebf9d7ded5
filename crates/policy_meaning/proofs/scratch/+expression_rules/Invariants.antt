use Rattle.policy_expr.specs.Policy.{policy_of}
use Rattle.policy_meaning.proofs.LevelsBelow.{operators}
use Rattle.policy_meaning.proofs.scratch.+expression_rules.Given as goal

abbrev pub decreases-expression_rules : goal.decreases-expression_rules
decreases-expression_rules l = operators (policy_of l.expr.now)
