use Rattle.setting_laws.proofs.Drafted.{settled_sound}
use Rattle.setting_laws.proofs.laws.settled_is_sound.Goals as goal

pub returns : goal.returns
returns c = settled_sound
