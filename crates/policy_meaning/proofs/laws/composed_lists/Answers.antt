use Rattle.policy_meaning.proofs.WrittenRules.{nodes-are-written, nodes-have-leaves, rules-are-written}
use Rattle.policy_meaning.proofs.WrittenRules.{rules-have-leaves}
use Rattle.policy_meaning.proofs.laws.composed_lists.Goals as goal

pub returns-clause-rules : goal.returns-clause-rules
returns-clause-rules c = rules-are-written

pub returns-clause-nodes : goal.returns-clause-nodes
returns-clause-nodes c = nodes-are-written

pub returns-clause-leaves : goal.returns-clause-leaves
returns-clause-leaves c = rules-have-leaves

pub returns-clause-node_leaves : goal.returns-clause-node_leaves
returns-clause-node_leaves c = nodes-have-leaves
