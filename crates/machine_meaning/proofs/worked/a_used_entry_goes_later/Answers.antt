use Rattle.machine_meaning.specs.WorkedTimeouts.{used_goes_later}
use Rattle.machine_meaning.proofs.worked.a_used_entry_goes_later.Goals as goal

pub returns : goal.returns
returns c = used_goes_later
