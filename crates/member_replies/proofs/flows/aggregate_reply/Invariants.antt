use Rattle.std.proofs.Common.{◌≡◌, take}
use Rattle.member_replies.specs.Filters.{listed}
use Rattle.member_replies.specs.InsideSums.{sums_of}
use Rattle.member_replies.proofs.flows.aggregate_reply.Given as goal

abbrev pub invariant-loop-place : goal.invariant-loop-place
invariant-loop-place g l = l.sums ≡ sums_of (g.C.EntryCounts.numbers l.counts)
    (listed l.filter (take l.place l.table.table.entries))
