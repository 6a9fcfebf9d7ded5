use Rattle.switch_state.proofs.Frames.{batch_is_sendable, others_are_sendable, quiet_changes_nothing, sent_is_read}
use Rattle.switch_state.proofs.laws.reading.Goals as goal

pub returns-clause-sent : goal.returns-clause-sent
returns-clause-sent c = sent_is_read

pub returns-clause-batch : goal.returns-clause-batch
returns-clause-batch c = batch_is_sendable

pub returns-clause-others : goal.returns-clause-others
returns-clause-others c = others_are_sendable

pub returns-clause-quiet : goal.returns-clause-quiet
returns-clause-quiet c = quiet_changes_nothing
