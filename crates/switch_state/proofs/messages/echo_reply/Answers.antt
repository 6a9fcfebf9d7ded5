use Rattle.switch_state.proofs.Fitting.{echo_fits}
use Rattle.switch_state.proofs.messages.echo_reply.Goals as goal

pub write_message-requires : goal.write_message-requires
write_message-requires c = echo_fits c.args.bytes c.requires
