use Rattle.std.proofs.Common.{sym, ◌∙◌}
use Rattle.switch_state.specs.Messages.{addition}
use Rattle.switch_state.proofs.Partly.{in_phase, on_err}
use Rattle.switch_state.proofs.sending.add_phase.Goals as goal

pub returns-in_err-send_adds-clause-memory : goal.returns-in_err-send_adds-clause-memory
returns-in_err-send_adds-clause-memory c =
    on_err c.from_residual.result _ (in_phase addition c.args.adds _ _
    (sym c.is_empty.ensures ∙ c.if-is_empty.false) c.in_err-send_adds.ensures.memory)
