use Rattle.machine_meaning.specs.WorkedPackets.{two_told}
use Rattle.machine_meaning.proofs.worked.two_are_told.Goals as goal

pub returns : goal.returns
returns c = two_told
