use Rattle.setting_laws.proofs.Staying.{takings_stay}
use Rattle.setting_laws.proofs.laws.takings_keep_tables.Goals as goal

pub returns : goal.returns
returns c = takings_stay
