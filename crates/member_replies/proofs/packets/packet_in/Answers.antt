use Rattle.member_replies.proofs.Writable.{packet_writable}
use Rattle.member_replies.proofs.packets.packet_in.Goals as goal

pub write_message-requires : goal.write_message-requires
write_message-requires c = packet_writable c.args.total_len c.args.in_port c.args.reason c.args.bytes c.requires
