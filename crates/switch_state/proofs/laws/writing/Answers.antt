use Rattle.switch_state.proofs.Tables.{batch_is_written, installation_is_written}
use Rattle.switch_state.proofs.laws.writing.Goals as goal

pub returns-clause-batch : goal.returns-clause-batch
returns-clause-batch c = batch_is_written

pub returns-clause-installation : goal.returns-clause-installation
returns-clause-installation c = installation_is_written
