use Rattle.used_entries.proofs.UsedTraced.{used_entries_traced}
use Rattle.used_entries.proofs.used_entries_are_traced.Goals as goal

pub returns : goal.returns
returns c = used_entries_traced
