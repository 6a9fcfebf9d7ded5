use Rattle.told_batches.proofs.ToldBatches.{batches-told}
use Rattle.told_batches.proofs.laws.batches_are_told.Goals as goal

pub returns : goal.returns
returns c = batches-told c.order_is_free.ensures.batch
