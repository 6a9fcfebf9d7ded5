use Rattle.agreement.proofs.FreeOrder.{batch-is-the-same, installed-is-permuted}
use Rattle.agreement.proofs.laws.order_is_free.Goals as goal

pub returns-clause-installed : goal.returns-clause-installed
returns-clause-installed c = installed-is-permuted

pub returns-clause-batch : goal.returns-clause-batch
returns-clause-batch c = batch-is-the-same
