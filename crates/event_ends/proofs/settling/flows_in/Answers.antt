use Rattle.event_ends.proofs.settling.flows_in.Goals as goal

pub flow_reply-requires : goal.flow_reply-requires
flow_reply-requires c = c.are_short.ensures c.if-not-are_short.false
