use Rattle.std.proofs.Common.{map}
use Rattle.switch_state.specs.Messages.{addition, delete_strict, phase}
use Rattle.switch_state.proofs.Partly.{first_partly, on_err, then_partly}
use Rattle.switch_state.proofs.sending.write_batch.Goals as goal

pub returns-in_err-delete_phase-clause-memory : goal.returns-in_err-delete_phase-clause-memory
returns-in_err-delete_phase-clause-memory c =
    on_err c.from_residual.result _ (first_partly (phase (map delete_strict c.args.batch.deletes))
    (phase (map addition c.args.batch.adds)) _ _ c.in_err-delete_phase.ensures.memory)

pub returns-clause-memory : goal.returns-clause-memory
returns-clause-memory c =
    then_partly c.add_phase.result (phase (map delete_strict c.args.batch.deletes))
    (phase (map addition c.args.batch.adds)) _ _ _ c.in_ok-delete_phase.ensures.sent c.add_phase.ensures.memory
