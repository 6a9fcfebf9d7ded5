use Rattle.machine_answers.proofs.Steps.{later_moments}
use Rattle.machine_answers.proofs.moments_go_on.Goals as goal

pub returns : goal.returns
returns c = later_moments
