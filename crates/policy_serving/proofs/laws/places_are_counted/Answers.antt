use Rattle.policy_serving.proofs.Served.{counted}
use Rattle.policy_serving.proofs.laws.places_are_counted.Goals as goal

pub returns : goal.returns
returns c = counted
