use Rattle.member_replies.proofs.Writable.{config_writable}
use Rattle.member_replies.proofs.answers.config_reply.Goals as goal

pub write_message-requires : goal.write_message-requires
write_message-requires c = config_writable c.args.flags c.args.miss_send_len
