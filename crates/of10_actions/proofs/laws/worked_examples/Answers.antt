use Rattle.std.proofs.Common.{refl}
use Rattle.of10_actions.specs.Reading.{action_at, actions_at}
use Rattle.of10_actions.proofs.laws.worked_examples.Goals as goal

pub returns-clause-spelled : goal.returns-clause-spelled
unfolding action_at actions_at
returns-clause-spelled c = (refl, refl)

pub returns-clause-faults : goal.returns-clause-faults
unfolding action_at actions_at
returns-clause-faults c = (refl, refl, refl)
