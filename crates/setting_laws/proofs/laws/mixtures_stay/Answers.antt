use Rattle.setting_laws.proofs.Mixed.{mixtures_stay as mixtures-stay}
use Rattle.setting_laws.proofs.laws.mixtures_stay.Goals as goal

pub returns : goal.returns
returns c = mixtures-stay
