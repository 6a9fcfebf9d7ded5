use Rattle.member_replies.proofs.Sums.{sums_more}
use Rattle.member_replies.proofs.flows.aggregate_reply.Goals as goal

pub loop-place-preserved : goal.loop-place-preserved
loop-place-preserved g c =
    sums_more (g.C.EntryCounts.numbers c.args.counts.now) c.args.filter.now c.args.table.now.table.entries
    c.loop-place.place c.loop-place.sums c.with_entry_at-sums.result c.loop-place.invariant
    c.with_entry_at-sums.ensures
