use Rattle.std.proofs.Common.{sym}
use Rattle.machine_drafts.proofs.FewPorts.{member_few}
use Rattle.event_ends.proofs.settling.port_replies.Goals as goal

pub port_reply-requires : goal.port_reply-requires
port_reply-requires c =
    member_few c.args.setup.now c.args.asker.now.member c.in-Some.member.now c.policy.ensures.sound
    (sym c.in-Some.ensures.member)
