use Rattle.std.proofs.Common.{refl}
use Rattle.agreement.proofs.WorkedSpread.{sound-spread, spread-agrees}
use Rattle.agreement.proofs.worked.worked_spread.Goals as goal

pub returns-clause-installed : goal.returns-clause-installed
returns-clause-installed c = refl

pub returns-clause-sound : goal.returns-clause-sound
returns-clause-sound c = sound-spread

pub returns-clause-agrees : goal.returns-clause-agrees
returns-clause-agrees c = spread-agrees
