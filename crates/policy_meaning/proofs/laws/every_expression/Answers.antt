use Rattle.policy_meaning.proofs.Everywhere.{every_expression, expressions_are_sound}
use Rattle.policy_meaning.proofs.laws.every_expression.Goals as goal

pub returns-clause-best : goal.returns-clause-best
returns-clause-best c = every_expression

pub returns-clause-sound : goal.returns-clause-sound
returns-clause-sound c = expressions_are_sound
