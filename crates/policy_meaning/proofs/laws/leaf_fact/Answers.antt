use Rattle.policy_meaning.proofs.LeafLemmas.{leaf_fact, leaf_rules_are_sound}
use Rattle.policy_meaning.proofs.laws.leaf_fact.Goals as goal

pub returns-clause-best : goal.returns-clause-best
returns-clause-best c = leaf_fact

pub returns-clause-sound : goal.returns-clause-sound
returns-clause-sound c = leaf_rules_are_sound
