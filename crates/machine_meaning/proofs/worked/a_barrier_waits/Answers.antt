use Rattle.machine_meaning.specs.WorkedBarriers.{barrier_waits}
use Rattle.machine_meaning.proofs.worked.a_barrier_waits.Goals as goal

pub returns : goal.returns
returns c = barrier_waits
