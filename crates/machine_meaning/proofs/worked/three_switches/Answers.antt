use Rattle.machine_meaning.specs.WorkedBarriers.{three_switches}
use Rattle.machine_meaning.proofs.worked.three_switches.Goals as goal

pub returns : goal.returns
returns c = three_switches
