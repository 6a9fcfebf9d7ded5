use Rattle.machine_answers.proofs.Steps.{stay}
use Rattle.machine_answers.proofs.sessions_stay.Goals as goal

pub returns : goal.returns
returns c = stay
