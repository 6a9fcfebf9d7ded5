use Rattle.setting_laws.proofs.Staying.{phases_stay}
use Rattle.setting_laws.proofs.laws.phases_keep_tables.Goals as goal

pub returns : goal.returns
returns c = phases_stay
