use Rattle.written_tables.proofs.Made.{runs_make}
use Rattle.written_tables.proofs.laws.runs_make_tables.Goals as goal

pub returns : goal.returns
returns c = runs_make c.steps_make_tables.ensures c.opening_is_sound.ensures c.soundness_is_kept.ensures
