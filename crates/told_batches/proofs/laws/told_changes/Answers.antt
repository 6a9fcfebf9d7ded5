use Rattle.told_batches.proofs.ToldBatches.{told_between}
use Rattle.told_batches.proofs.laws.told_changes.Goals as goal

pub returns : goal.returns
returns c = told_between
