use Rattle.policy_serving.proofs.Served.{few}
use Rattle.policy_serving.proofs.laws.places_are_few.Goals as goal

pub returns : goal.returns
returns c = few
