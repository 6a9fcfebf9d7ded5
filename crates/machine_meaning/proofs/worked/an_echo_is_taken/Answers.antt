use Rattle.machine_meaning.specs.WorkedRounds.{echo_taken}
use Rattle.machine_meaning.proofs.worked.an_echo_is_taken.Goals as goal

pub returns : goal.returns
returns c = echo_taken
