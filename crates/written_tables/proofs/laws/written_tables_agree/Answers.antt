use Rattle.written_tables.proofs.Made.{written_agree}
use Rattle.written_tables.proofs.laws.written_tables_agree.Goals as goal

pub returns : goal.returns
returns c =
    written_agree c.opening_is_sound.ensures c.soundness_is_kept.ensures c.runs_make_tables.ensures
    c.made_tables_agree.ensures
