use Rattle.machine_meaning.proofs.CountSteps.{counts_counted}
use Rattle.machine_meaning.proofs.laws.counts_are_counted.Goals as goal

pub returns : goal.returns
returns c = counts_counted
