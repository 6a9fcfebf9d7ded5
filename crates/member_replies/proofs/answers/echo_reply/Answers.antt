use Rattle.member_replies.proofs.Writable.{echo_writable}
use Rattle.member_replies.proofs.answers.echo_reply.Goals as goal

pub write_message-requires : goal.write_message-requires
write_message-requires c = echo_writable c.args.bytes c.requires
