use Rattle.std.proofs.Common.{◌≡◌, List, ℕ, ap, subst, sym, ◌∙◌}
use Rattle.std.specs.Prelude.{IfOk}
use Rattle.member_replies.specs.Statistics.{messages, tables}
use Rattle.member_state.specs.States.{MemberStateOf}
use Rattle.member_table.specs.Tables.{Held, TableOf}
use Rattle.machine_drafts.specs.MemberDrafts.{MemberDraftOf}
use Rattle.event_acts.proofs.Changes.{same_there}
use Rattle.event_acts.proofs.statistics.tables_at.Goals as goal

pub returns : goal.returns
returns c = λ x there.
    let found = same_there c.args.members.now c.args.n x c.index-members-n.result there c.index-members-n.is in
    let kept = c.state.ensures ∙ (c.in_ok-kept.ensures ∙ ap (λ (z : MemberDraftOf). z.now.kept) (sym found)) in
    let table = ap (λ (t : Held). t.table) c.table-table.ensures.table ∙ ap (λ (k : MemberStateOf). k.table) kept in
    subst
    (λ (t : TableOf). IfOk c.table_reply-sent.result (λ (sent : List (List ℕ)).
    sent ≡ messages c.args.xid (tables t.limit t.entries)))
    table
    (subst (λ (limit : ℕ). IfOk c.table_reply-sent.result (λ (sent : List (List ℕ)).
    sent ≡ messages c.args.xid (tables limit c.table-table.result.now.table.entries)))
    c.limit.ensures c.table_reply-sent.ensures)
