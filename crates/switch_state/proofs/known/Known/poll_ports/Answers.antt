use Rattle.std.proofs.Common.{sym, subst}
use Rattle.of10_msgs.specs.Ranges.{CanWrite}
use Rattle.switch_state.proofs.Fitting.{port_request_fits}
use Rattle.switch_state.proofs.known.Known.poll_ports.Goals as goal

pub send-requires : goal.send-requires
send-requires c = subst CanWrite (sym c.in_ok-body.ensures) port_request_fits
