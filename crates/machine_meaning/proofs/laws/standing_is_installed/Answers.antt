use Rattle.machine_meaning.proofs.Standing.{standing_installed}
use Rattle.machine_meaning.proofs.laws.standing_is_installed.Goals as goal

pub returns : goal.returns
returns c = standing_installed
