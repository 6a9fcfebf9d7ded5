use Rattle.agreement.proofs.Agreed.{agreed}
use Rattle.agreement.proofs.laws.agreement.Goals as goal

pub returns : goal.returns
returns c = agreed
