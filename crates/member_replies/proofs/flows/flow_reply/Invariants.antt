use Rattle.std.proofs.Common.{◌≡◌, All, map, take}
use Rattle.of10_stats.specs.Ranges.{CanWriteEntry}
use Rattle.member_replies.specs.Filters.{listed}
use Rattle.member_replies.specs.Statistics.{flow_stat}
use Rattle.member_replies.proofs.flows.flow_reply.Given as goal

abbrev pub invariant-loop-place : goal.invariant-loop-place
invariant-loop-place g l = record {
  made : l.entries ≡ map (λ e. flow_stat l.moment (g.C.EntryCounts.numbers l.counts e.serial) e)
      (listed l.filter (take l.place l.table.table.entries));
  writable : All CanWriteEntry l.entries;
}
