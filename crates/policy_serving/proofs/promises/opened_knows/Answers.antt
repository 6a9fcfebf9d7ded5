use Rattle.policy_serving.proofs.Opened.{opened}
use Rattle.policy_serving.proofs.promises.opened_knows.Goals as goal

pub returns : goal.returns
returns c = opened
