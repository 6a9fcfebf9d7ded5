use Rattle.std.proofs.Common.{All, subst}
use Rattle.of10_msgs.specs.Ranges.{HasAddress}
use Rattle.member_replies.proofs.Writable.{features_writable}
use Rattle.member_replies.proofs.answers.features_reply.Goals as goal

pub write_message-requires : goal.write_message-requires
write_message-requires c =
    rw (c.actions_of.ensures, c.in_ok-shown_ports.ensures.ports)
    (features_writable c.args.dpid c.args.g.now c.args.v c.args.dark.now c.requires
    (subst (All HasAddress) c.in_ok-shown_ports.ensures.ports c.in_ok-shown_ports.ensures.addresses))
