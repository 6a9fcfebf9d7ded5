use Rattle.events.proofs.Written.{written_again}
use Rattle.events.proofs.laws.written_is_read.Goals as goal

pub returns : goal.returns
returns c = written_again
