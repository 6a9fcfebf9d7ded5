use Rattle.member_replies.proofs.Writable.{barrier_writable}
use Rattle.member_replies.proofs.answers.barrier_reply.Goals as goal

pub write_message-requires : goal.write_message-requires
write_message-requires c = barrier_writable
