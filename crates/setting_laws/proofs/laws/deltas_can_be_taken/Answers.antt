use Rattle.setting_laws.proofs.Taking.{deltas_taken}
use Rattle.setting_laws.proofs.laws.deltas_can_be_taken.Goals as goal

pub returns : goal.returns
returns c = deltas_taken
