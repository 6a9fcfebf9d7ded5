use Rattle.setting_laws.proofs.Mixed.{mixtures_lead}
use Rattle.setting_laws.proofs.laws.mixtures_lead.Goals as goal

pub returns : goal.returns
returns c = mixtures_lead
