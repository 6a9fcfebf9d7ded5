use Rattle.std.proofs.Common.{subst}
use Rattle.policies.specs.Sound.{IsSound}
use Rattle.machine_drafts.proofs.setup.Setup.policy.Goals as goal

pub returns-clause-sound : goal.returns-clause-sound
returns-clause-sound c = subst IsSound c.self.view_is c.is_sound.ensures
