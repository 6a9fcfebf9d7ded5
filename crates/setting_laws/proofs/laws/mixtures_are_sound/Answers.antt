use Rattle.setting_laws.proofs.Mixed.{mixtures_sound}
use Rattle.setting_laws.proofs.laws.mixtures_are_sound.Goals as goal

pub returns : goal.returns
returns c = mixtures_sound
