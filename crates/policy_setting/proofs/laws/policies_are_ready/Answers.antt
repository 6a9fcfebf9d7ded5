use Rattle.policy_setting.proofs.Ready.{ready}
use Rattle.policy_setting.proofs.laws.policies_are_ready.Goals as goal

pub returns : goal.returns
returns c = ready c.topologies_are_sound.ensures
