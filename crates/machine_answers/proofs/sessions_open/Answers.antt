use Rattle.machine_answers.proofs.Steps.{opens}
use Rattle.machine_answers.proofs.sessions_open.Goals as goal

pub returns : goal.returns
returns c = opens
