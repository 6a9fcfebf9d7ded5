use Rattle.machine_meaning.specs.WorkedRounds.{slow_closed}
use Rattle.machine_meaning.proofs.worked.a_slow_member_is_closed.Goals as goal

pub returns : goal.returns
returns c = slow_closed
