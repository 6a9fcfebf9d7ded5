use Rattle.event_composes.proofs.Meanings.{meanings_are_states}
use Rattle.hyper_core.proofs.machine.meanings_are_states.Goals as goal

pub returns : goal.returns
returns c = meanings_are_states
