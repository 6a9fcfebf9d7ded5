use Rattle.policy_meaning.proofs.LevelsBelow.{nodes_are_below, rules_are_below, sound_tables_fit}
use Rattle.policy_meaning.proofs.laws.levels_are_below.Goals as goal

pub returns-clause-rules : goal.returns-clause-rules
returns-clause-rules c = rules_are_below

pub returns-clause-nodes : goal.returns-clause-nodes
returns-clause-nodes c = nodes_are_below

pub returns-clause-sound : goal.returns-clause-sound
returns-clause-sound c = sound_tables_fit
