use Rattle.setting_laws.proofs.Mixed.{mixtures_change as mixtures-change}
use Rattle.setting_laws.proofs.laws.mixtures_change.Goals as goal

pub returns : goal.returns
returns c = mixtures-change
