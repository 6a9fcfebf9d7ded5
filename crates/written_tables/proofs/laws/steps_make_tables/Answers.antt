use Rattle.written_tables.proofs.Made.{steps_make}
use Rattle.written_tables.proofs.laws.steps_make_tables.Goals as goal

pub returns : goal.returns
returns c = steps_make c.steps_are_written.ensures
