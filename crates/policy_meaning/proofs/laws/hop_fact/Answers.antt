use Rattle.policy_meaning.proofs.Nodes.{hop_fact}
use Rattle.policy_meaning.proofs.laws.hop_fact.Goals as goal

pub returns : goal.returns
returns c = hop_fact
