use Rattle.machine_answers.proofs.Steps.{heard_goings}
use Rattle.machine_answers.proofs.goings_are_heard.Goals as goal

pub returns : goal.returns
returns c = heard_goings
