use Rattle.setting_laws.proofs.Drafted.{heard_sound}
use Rattle.setting_laws.proofs.laws.heard_is_sound.Goals as goal

pub returns : goal.returns
returns c = heard_sound
