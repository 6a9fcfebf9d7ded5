use Rattle.machine_answers.proofs.Takings.{answers}
use Rattle.machine_answers.proofs.takings_are_answered.Goals as goal

pub returns : goal.returns
returns c = answers
