use Rattle.std.proofs.Common.{refl}
use Rattle.agreement.proofs.WorkedSplit.{sound-split, split-agrees}
use Rattle.agreement.proofs.worked.worked_split.Goals as goal

pub returns-clause-seen : goal.returns-clause-seen
returns-clause-seen c = refl

pub returns-clause-sound : goal.returns-clause-sound
returns-clause-sound c = sound-split

pub returns-clause-agrees : goal.returns-clause-agrees
returns-clause-agrees c = split-agrees
