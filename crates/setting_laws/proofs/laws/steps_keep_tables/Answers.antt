use Rattle.setting_laws.proofs.Staying.{steps_stay}
use Rattle.setting_laws.proofs.laws.steps_keep_tables.Goals as goal

pub returns : goal.returns
returns c = steps_stay
