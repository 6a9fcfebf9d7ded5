use Rattle.machine_meaning.specs.WorkedCounts.{entry_is_replaced}
use Rattle.machine_meaning.proofs.worked.an_entry_is_replaced.Goals as goal

pub returns : goal.returns
returns c = entry_is_replaced
