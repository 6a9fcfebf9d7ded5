use Rattle.machine_meaning.specs.WorkedEntries.{entry_is_added}
use Rattle.machine_meaning.proofs.worked.an_entry_is_added.Goals as goal

pub returns : goal.returns
returns c = entry_is_added
