use Rattle.used_entries.proofs.BestTraced.{best_entries_traced}
use Rattle.used_entries.proofs.best_entries_are_traced.Goals as goal

pub returns : goal.returns
returns c = best_entries_traced
