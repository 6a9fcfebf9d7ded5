use Rattle.switch_tables.proofs.Switching.{stands-as-installed}
use Rattle.switch_tables.proofs.laws.standing_is_installed.Goals as goal

pub returns : goal.returns
returns c = stands-as-installed
