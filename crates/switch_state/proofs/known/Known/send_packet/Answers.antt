use Rattle.std.proofs.Common.{sym, subst}
use Rattle.of10_msgs.specs.Ranges.{CanWrite}
use Rattle.switch_state.proofs.Fitting.{packet_fits}
use Rattle.switch_state.proofs.known.Known.send_packet.Goals as goal

pub send-requires : goal.send-requires
send-requires c = subst CanWrite (sym c.in_ok-body.ensures) (packet_fits c.args.port c.args.bytes c.requires)
