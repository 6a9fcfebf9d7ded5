use Rattle.policy_meaning.proofs.RangedRules.{nodes-are-in-range, rules-are-in-range}
use Rattle.policy_meaning.proofs.laws.values_in_range.Goals as goal

pub returns-clause-rules : goal.returns-clause-rules
returns-clause-rules c = rules-are-in-range

pub returns-clause-nodes : goal.returns-clause-nodes
returns-clause-nodes c = nodes-are-in-range
