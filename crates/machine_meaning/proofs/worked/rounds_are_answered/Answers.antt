use Rattle.machine_meaning.specs.WorkedRounds.{rounds_answered}
use Rattle.machine_meaning.proofs.worked.rounds_are_answered.Goals as goal

pub returns : goal.returns
returns c = rounds_answered
