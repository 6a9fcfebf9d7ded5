use Rattle.agreement.proofs.Ways.{shortest-hops-are-ways}
use Rattle.agreement.proofs.laws.ways.Goals as goal

pub returns : goal.returns
returns c = shortest-hops-are-ways
