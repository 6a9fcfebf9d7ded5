use Rattle.policy_meaning.proofs.Apart.{differ}
use Rattle.policy_meaning.proofs.Disjointness.{leaf-disjoint, nodes-are-disjoint, rules-are-disjoint}
use Rattle.policy_meaning.proofs.laws.disjointness.Goals as goal

pub returns-clause-leaves : goal.returns-clause-leaves
returns-clause-leaves c = leaf-disjoint

pub returns-clause-expressions : goal.returns-clause-expressions
returns-clause-expressions c = rules-are-disjoint

pub returns-clause-nodes : goal.returns-clause-nodes
returns-clause-nodes c = nodes-are-disjoint

pub returns-clause-differ : goal.returns-clause-differ
returns-clause-differ c = differ
