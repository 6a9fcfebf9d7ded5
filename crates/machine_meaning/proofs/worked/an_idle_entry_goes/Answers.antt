use Rattle.machine_meaning.specs.WorkedTimeouts.{idle_goes}
use Rattle.machine_meaning.proofs.worked.an_idle_entry_goes.Goals as goal

pub returns : goal.returns
returns c = idle_goes
