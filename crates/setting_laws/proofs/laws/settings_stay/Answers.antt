use Rattle.setting_laws.proofs.Staying.{settings_stay as settings-stay}
use Rattle.setting_laws.proofs.laws.settings_stay.Goals as goal

pub returns : goal.returns
returns c = settings-stay
