use Rattle.std.proofs.Common.{◌≡◌, ℕ, List, IfOk, ap, subst}
use Rattle.member_replies.specs.Statistics.{aggregate, messages}
use Rattle.member_table.specs.Tables.{TableOf}
use Rattle.member_table.specs.declared.entry.Entry.{Entry}
use Rattle.stats_map.specs.Counting.{count}
use Rattle.stats_map.specs.Told.{told}
use Rattle.machine_meaning.specs.Counted.{leaf_at}
use Rattle.event_ends.proofs.settling.no_aggregate.Goals as goal

pub returns : goal.returns
returns c =
    let counts = λ (serial : ℕ).
    count (told c.args.counts.now.counts.now.now) (leaf_at c.args.counts.now.member serial) in
    subst (λ (es : List Entry). IfOk c.aggregate_reply.result
    (λ sent. sent ≡ messages c.args.asker.now.xid (aggregate counts c.args.filter.now es)))
    (ap (λ (t : TableOf). t.entries) c.new-none.ensures) c.aggregate_reply.ensures
