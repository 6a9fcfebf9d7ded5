use Rattle.std.proofs.Common.{◌≡◌, ap, length, ◌∙◌, arith}
use Rattle.member_replies.specs.Ports.{visible}
use Rattle.member_replies.proofs.PortLists.{length_visible}
use Rattle.member_replies.proofs.Replies.{ports_writable}
use Rattle.member_replies.proofs.statistics.port_reply.Goals as goal

pub write_reply-requires : goal.write_reply-requires
write_reply-requires c =
    let all : c.as_slice-port-items.result.now ≡ visible c.args.view.now = c.as_slice-port-items.ensures
    ∙ c.in_ok-all.ensures in
    ports_writable c.loop-port.ports c.args.told.now c.args.number c.as_slice-port-items.result.now
    c.loop-port.port-index c.loop-port.invariant
    (omega (arith, ap length all, length_visible c.args.view.now, c.requires))
