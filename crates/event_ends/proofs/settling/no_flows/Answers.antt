use Rattle.std.proofs.Common.{◌≡◌, ℕ, List, IfOk, ap, subst, sym}
use Rattle.member_replies.specs.Statistics.{AreShort, flows, messages}
use Rattle.member_table.specs.Tables.{TableOf}
use Rattle.member_table.specs.declared.entry.Entry.{Entry}
use Rattle.stats_map.specs.Counting.{count}
use Rattle.stats_map.specs.Told.{told}
use Rattle.machine_meaning.specs.Counted.{leaf_at}
use Rattle.event_ends.proofs.settling.no_flows.Goals as goal

pub flow_reply-requires : goal.flow_reply-requires
flow_reply-requires c = subst AreShort (sym (ap (λ (t : TableOf). t.entries) c.new-none.ensures)) tt

pub returns : goal.returns
returns c =
    let counts = λ (serial : ℕ).
    count (told c.args.counts.now.counts.now.now) (leaf_at c.args.counts.now.member serial) in
    subst (λ (es : List Entry). IfOk c.flow_reply.result
    (λ sent. sent ≡ messages c.args.asker.now.xid (flows c.args.moment counts c.args.filter.now es)))
    (ap (λ (t : TableOf). t.entries) c.new-none.ensures) c.flow_reply.ensures
