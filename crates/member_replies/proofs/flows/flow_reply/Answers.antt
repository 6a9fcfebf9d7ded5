use Rattle.std.proofs.Common.{All, List, ap, map, subst, sym, take, ◌∙◌, arith}
use Rattle.std.specs.Prelude.{option_to_list}
use Rattle.std.proofs.lemmas.List.{take_all}
use Rattle.std.proofs.lemmas.List.Elements.{All-append}
use Rattle.std.proofs.lemmas.Result.{IfOk-weaker}
use Rattle.of10_stats.specs.Ranges.{CanWriteEntry}
use Rattle.of10_stats.specs.declared.reply.ReplyBody.TheVariants.{Flow}
use Rattle.member_table.specs.declared.entry.Entry.{Entry}
use Rattle.member_replies.specs.Filters.{listed}
use Rattle.member_replies.specs.Statistics.{flow_stat, messages}
use Rattle.member_replies.proofs.Entries.{made_more}
use Rattle.member_replies.proofs.flows.flow_reply.Goals as goal

pub loop-place-preserved : goal.loop-place-preserved
loop-place-preserved g c =
    let pushed = c.in_ok-push_some.ensures.pushed in
    let more = option_to_list c.in_ok-stat_at.field-0 in
    record {
      made = pushed ∙ made_more _ c.args.filter.now c.args.table.now.table.entries c.loop-place.place
          c.loop-place.entries more c.loop-place.invariant.made c.in_ok-stat_at.ensures.stats;
      writable = subst (All CanWriteEntry) (sym pushed)
          (All-append CanWriteEntry c.loop-place.entries more c.loop-place.invariant.writable
          c.in_ok-stat_at.ensures.writable);
    }

pub returns : goal.returns
returns g c =
    let es = c.args.table.now.table.entries in
    let whole = take_all c.loop-place.place es
    (omega (arith, c.loop-place-test.false, c.len-place-end.ensures.count)) in
    let stat = λ (e : Entry). flow_stat c.args.moment (g.C.EntryCounts.numbers c.args.counts.now e.serial) e in
    let made = c.loop-place.invariant.made ∙ ap (λ (xs : List Entry). map stat (listed c.args.filter.now xs)) whole in
    IfOk-weaker c.write_reply.result _ _ (λ sent is. is ∙ ap (λ stats. messages c.args.xid (Flow stats)) made)
    c.write_reply.ensures
