use Rattle.hop_rules.proofs.Counting.{told-row}
use Rattle.hop_rules.proofs.laws.steps_are_of_what_came.Goals as goal

pub returns : goal.returns
returns c f g es n come came places to there = told-row f g es n came there come to places
