use Rattle.machine_meaning.specs.WorkedTimeouts.{idle_polled}
use Rattle.machine_meaning.proofs.worked.an_idle_entry_is_polled.Goals as goal

pub returns : goal.returns
returns c = idle_polled
