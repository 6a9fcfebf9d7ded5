use Rattle.std.proofs.Common.{ap}
use Rattle.std.proofs.lemmas.Result.{on_ok_weaker}
use Rattle.stats_map.specs.Told.{told}
use Rattle.member_table.specs.Tables.{TableOf}
use Rattle.event_ends.proofs.LostEntries.{member_forgotten}
use Rattle.event_ends.proofs.forgetting.forget_member.Goals as goal

pub returns-clause-told : goal.returns-clause-told
returns-clause-told c =
    let lost = c.lost-lost.result in
    let had = c.table_before-table.result.now.table.entries in
    let first = told c.forget_serials.new.counts.now in
    on_ok_weaker c.forget_serials-2.result
    (member_forgotten c.args.owed.now c.args.n c.args.member.now had lost.removed.now lost.dropped.now
    (told c.args.counts.now.now) first (told c.forget_serials-2.new.counts.now)
    (ap (λ (t : TableOf). t.entries) c.table_before-table.ensures) c.lost-lost.ensures
    c.in_ok-forget_serials.ensures.told)
    c.forget_serials-2.ensures.told
