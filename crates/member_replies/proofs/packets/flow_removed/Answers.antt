use Rattle.std.proofs.Common.{length, ap, sym, ◌∙◌}
use Rattle.member_replies.proofs.Writable.{removal_writable}
use Rattle.member_replies.proofs.packets.flow_removed.Goals as goal

pub write_message-requires : goal.write_message-requires
write_message-requires c =
    rw (c.match_of.ensures.value, c.seconds.ensures)
    (removal_writable c.args.entry.now c.args.reason c.args.moment
    (record { packets = c.args.packets; bytes = c.args.bytes })
    (ap length (sym c.match_of.ensures.value) ∙ c.match_of.ensures.size))
