use Rattle.std.proofs.Common.{sym, ◌∙◌}
use Rattle.switch_state.specs.Messages.{delete_strict}
use Rattle.switch_state.proofs.Partly.{in_phase, on_err}
use Rattle.switch_state.proofs.sending.delete_phase.Goals as goal

pub returns-in_err-send_deletes-clause-memory : goal.returns-in_err-send_deletes-clause-memory
returns-in_err-send_deletes-clause-memory c =
    on_err c.from_residual.result _ (in_phase delete_strict c.args.deletes _ _
    (sym c.is_empty.ensures ∙ c.if-is_empty.false) c.in_err-send_deletes.ensures.memory)
