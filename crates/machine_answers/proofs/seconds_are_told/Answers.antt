use Rattle.machine_answers.proofs.Steps.{told_seconds}
use Rattle.machine_answers.proofs.seconds_are_told.Goals as goal

pub returns : goal.returns
returns c = told_seconds
