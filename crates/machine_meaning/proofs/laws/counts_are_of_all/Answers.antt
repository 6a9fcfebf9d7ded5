use Rattle.machine_meaning.proofs.CountRuns.{counts_of_all}
use Rattle.machine_meaning.proofs.laws.counts_are_of_all.Goals as goal

pub returns : goal.returns
returns c = counts_of_all c.counts_are_counted.ensures c.counting.ensures
