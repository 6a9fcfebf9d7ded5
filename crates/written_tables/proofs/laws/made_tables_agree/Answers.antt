use Rattle.written_tables.proofs.Made.{made_agree}
use Rattle.written_tables.proofs.laws.made_tables_agree.Goals as goal

pub returns : goal.returns
returns c = made_agree c.standing_is_installed.ensures c.states_agree.ensures
