use Rattle.policy_expr.proofs.Accepted.{same_tree}
use Rattle.policy_expr.proofs.laws.one_tree.Goals as goal

pub returns : goal.returns
returns c = same_tree
