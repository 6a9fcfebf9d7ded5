use Rattle.machine_meaning.proofs.Refused.{denials_change_nothing}
use Rattle.machine_meaning.proofs.laws.denials_change_nothing.Goals as goal

pub returns : goal.returns
returns c = denials_change_nothing
