use Rattle.explain_path.proofs.UsedByHops.{used_of_expressions, used_of_nodes}
use Rattle.explain_path.proofs.laws.used_leaves_are_the_ancestry.Goals as goal

pub returns-clause-expressions : goal.returns-clause-expressions
returns-clause-expressions c = used_of_expressions

pub returns-clause-nodes : goal.returns-clause-nodes
returns-clause-nodes c = used_of_nodes
