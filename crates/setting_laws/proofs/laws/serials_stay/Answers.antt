use Rattle.setting_laws.proofs.Drafted.{serials_stay as serials-stay}
use Rattle.setting_laws.proofs.laws.serials_stay.Goals as goal

pub returns : goal.returns
returns c = serials-stay
