use Rattle.switch_state.specs.Messages.{batch_messages, beginning}
use Rattle.switch_state.proofs.Partly.{first_partly, on_err, then_partly}
use Rattle.switch_state.proofs.known.Known.write.Goals as goal

pub returns-in_err-begin-clause-memory : goal.returns-in_err-begin-clause-memory
returns-in_err-begin-clause-memory c =
    on_err c.from_residual.result _ (first_partly (beginning c.args.begins) (batch_messages c.args.batch) _ _
    c.in_err-begin.ensures.memory)

pub returns-clause-memory : goal.returns-clause-memory
returns-clause-memory c =
    then_partly c.write_batch.result (beginning c.args.begins) (batch_messages c.args.batch) _ _ _
    c.in_ok-begin.ensures.sent c.write_batch.ensures.memory
