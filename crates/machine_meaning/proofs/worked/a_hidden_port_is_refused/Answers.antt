use Rattle.machine_meaning.specs.WorkedRefusals.{hidden_refused}
use Rattle.machine_meaning.proofs.worked.a_hidden_port_is_refused.Goals as goal

pub returns : goal.returns
returns c = hidden_refused
