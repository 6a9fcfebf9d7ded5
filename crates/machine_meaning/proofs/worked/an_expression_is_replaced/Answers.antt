use Rattle.machine_meaning.specs.WorkedReplacing.{expression_replaced}
use Rattle.machine_meaning.proofs.worked.an_expression_is_replaced.Goals as goal

pub returns : goal.returns
returns c = expression_replaced
