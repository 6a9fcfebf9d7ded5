use Rattle.machine_meaning.specs.WorkedReplacing.{expression_refused}
use Rattle.machine_meaning.proofs.worked.an_expression_is_refused.Goals as goal

pub returns : goal.returns
returns c = expression_refused
