use Rattle.machine_answers.proofs.Steps.{done_seconds}
use Rattle.machine_answers.proofs.seconds_are_done.Goals as goal

pub returns : goal.returns
returns c = done_seconds
