use Rattle.switch_state.proofs.Fitting.{barrier_fits}
use Rattle.switch_state.proofs.sending.send_barrier.Goals as goal

pub send-requires : goal.send-requires
send-requires c = barrier_fits
