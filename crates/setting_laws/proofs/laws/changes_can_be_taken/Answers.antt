use Rattle.setting_laws.proofs.Taking.{changes_taken}
use Rattle.setting_laws.proofs.laws.changes_can_be_taken.Goals as goal

pub returns : goal.returns
returns c = changes_taken
