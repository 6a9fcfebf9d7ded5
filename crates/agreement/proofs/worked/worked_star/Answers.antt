use Rattle.std.proofs.Common.{refl}
use Rattle.agreement.proofs.WorkedStar.{sound-star, star-agrees}
use Rattle.agreement.proofs.worked.worked_star.Goals as goal

pub returns-clause-first : goal.returns-clause-first
returns-clause-first c = refl

pub returns-clause-second : goal.returns-clause-second
returns-clause-second c = refl

pub returns-clause-third : goal.returns-clause-third
returns-clause-third c = refl

pub returns-clause-between : goal.returns-clause-between
returns-clause-between c = refl

pub returns-clause-seen : goal.returns-clause-seen
returns-clause-seen c = refl

pub returns-clause-followed : goal.returns-clause-followed
returns-clause-followed c = (refl, refl)

pub returns-clause-sound : goal.returns-clause-sound
returns-clause-sound c = sound-star

pub returns-clause-agrees : goal.returns-clause-agrees
returns-clause-agrees c = star-agrees
