use Rattle.event_composes.proofs.Meanings.{next_is_step}
use Rattle.hyper_core.proofs.machine.next_is_step.Goals as goal

pub returns : goal.returns
returns c = next_is_step
