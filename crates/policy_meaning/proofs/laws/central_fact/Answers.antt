use Rattle.policy_meaning.proofs.Central.{central, rules-are-sound}
use Rattle.policy_meaning.proofs.laws.central_fact.Goals as goal

pub returns-clause-best : goal.returns-clause-best
returns-clause-best c = central

pub returns-clause-sound : goal.returns-clause-sound
returns-clause-sound c = rules-are-sound
