use Rattle.setting_laws.proofs.Ready.{settings_ready}
use Rattle.setting_laws.proofs.laws.settings_are_ready.Goals as goal

pub returns : goal.returns
returns c = settings_ready c.settings_are_sound.ensures
