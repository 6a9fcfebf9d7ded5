use Rattle.written_tables.proofs.Waiting.{rounds_fit}
use Rattle.written_tables.proofs.laws.rounds_fit.Goals as goal

pub returns : goal.returns
returns c = rounds_fit
