use Rattle.pull_back.proofs.Exactness.{pull_is_exact, image_holds}
use Rattle.pull_back.proofs.laws.exactness.Goals as goal

pub returns-clause-pull : goal.returns-clause-pull
returns-clause-pull c = pull_is_exact

pub returns-clause-image : goal.returns-clause-image
returns-clause-image c = image_holds
