use Rattle.std.proofs.Common.{subst}
use Rattle.of10_msgs.specs.Ranges.{HasAddress}
use Rattle.member_replies.proofs.Writable.{port_writable}
use Rattle.member_replies.proofs.answers.port_status.Goals as goal

pub write_message-requires : goal.write_message-requires
write_message-requires c =
    rw c.in_ok-port_of.ensures.port
    (port_writable c.args.v c.args.port c.args.is_link c.args.is_dark
    (subst HasAddress c.in_ok-port_of.ensures.port c.in_ok-port_of.ensures.address))
