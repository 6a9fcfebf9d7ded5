use Rattle.setting_laws.proofs.Staying.{leaves_stay}
use Rattle.setting_laws.proofs.laws.leaves_are_of_tables.Goals as goal

pub returns : goal.returns
returns c = leaves_stay
