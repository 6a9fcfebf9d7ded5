use Rattle.std.proofs.Common.{refl}
use Rattle.agreement.proofs.WorkedRouter.{router-agrees, router-is-sound}
use Rattle.agreement.proofs.worked.worked_router.Goals as goal

pub returns-clause-by_port : goal.returns-clause-by_port
returns-clause-by_port c = refl

pub returns-clause-whole : goal.returns-clause-whole
returns-clause-whole c = refl

pub returns-clause-seen : goal.returns-clause-seen
returns-clause-seen c = (refl, refl, refl)

pub returns-clause-sound : goal.returns-clause-sound
returns-clause-sound c = router-is-sound

pub returns-clause-agrees : goal.returns-clause-agrees
returns-clause-agrees c = router-agrees
