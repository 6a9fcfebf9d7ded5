use Rattle.std.proofs.Common.{◌≡◌, ◌∙◌, ℕ, List, IfOk, ap, subst}
use Rattle.member_replies.specs.Statistics.{flows, messages}
use Rattle.member_state.specs.States.{MemberStateOf}
use Rattle.member_table.specs.Tables.{Held}
use Rattle.member_table.specs.declared.entry.Entry.{Entry}
use Rattle.stats_map.specs.Counting.{count}
use Rattle.stats_map.specs.Told.{told}
use Rattle.machine_meaning.specs.Counted.{leaf_at}
use Rattle.event_ends.proofs.settling.flows_of.Goals as goal

pub returns : goal.returns
returns c =
    let counts = λ (serial : ℕ).
    count (told c.args.counts.now.counts.now.now) (leaf_at c.args.counts.now.member serial) in
    let same : c.table.result.now.table.entries ≡ c.args.member.now.now.kept.table.entries =
    ap (λ (h : Held). h.table.entries) c.table.ensures.table
    ∙ ap (λ (k : MemberStateOf). k.table.entries) (c.state.ensures ∙ c.in_ok-kept.ensures) in
    subst (λ (es : List Entry). IfOk c.flows_in-sent.result
    (λ sent. sent ≡ messages c.args.asker.now.xid (flows c.args.moment counts c.args.filter.now es))) same
    c.flows_in-sent.ensures
