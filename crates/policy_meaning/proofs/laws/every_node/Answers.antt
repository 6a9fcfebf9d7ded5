use Rattle.policy_meaning.proofs.Everywhere.{every_node}
use Rattle.policy_meaning.proofs.laws.every_node.Goals as goal

pub returns : goal.returns
returns c = every_node
