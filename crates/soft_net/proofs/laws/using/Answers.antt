use Rattle.soft_net.proofs.Alike.{chooses_alike, chooses_allowed, sends_where}
use Rattle.soft_net.proofs.laws.using.Goals as goal

pub returns-clause-chooses : goal.returns-clause-chooses
returns-clause-chooses c = chooses_alike

pub returns-clause-allowed : goal.returns-clause-allowed
returns-clause-allowed c = chooses_allowed

pub returns-clause-sends : goal.returns-clause-sends
returns-clause-sends c = sends_where
