use Rattle.soft_net.proofs.Alike.{batches_are_such, holds_alike}
use Rattle.soft_net.proofs.laws.holding.Goals as goal

pub returns-clause-holds : goal.returns-clause-holds
returns-clause-holds c = holds_alike

pub returns-clause-batches : goal.returns-clause-batches
returns-clause-batches c = batches_are_such
