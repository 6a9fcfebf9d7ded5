use Rattle.machine_meaning.proofs.ClosedSessions.{slow_least}
use Rattle.machine_meaning.proofs.laws.slow_is_least.Goals as goal

pub returns : goal.returns
returns c = slow_least
