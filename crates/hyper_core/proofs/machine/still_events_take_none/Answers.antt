use Rattle.hyper_core.proofs.Still.{still_takes_none}
use Rattle.hyper_core.proofs.machine.still_events_take_none.Goals as goal

pub returns : goal.returns
returns c = still_takes_none
