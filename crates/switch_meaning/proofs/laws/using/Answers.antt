use Rattle.switch_meaning.proofs.BestUsed.{best-is-used}
use Rattle.switch_meaning.proofs.Gate.{best-is-installed}
use Rattle.switch_meaning.proofs.laws.using.Goals as goal

pub returns-clause-one_per_key : goal.returns-clause-one_per_key
returns-clause-one_per_key c = best-is-used

pub returns-clause-installed : goal.returns-clause-installed
returns-clause-installed c = best-is-installed
