use Rattle.machine_answers.proofs.Steps.{at_opening}
use Rattle.machine_answers.proofs.opening_has_sessions.Goals as goal

pub returns : goal.returns
returns c = at_opening
