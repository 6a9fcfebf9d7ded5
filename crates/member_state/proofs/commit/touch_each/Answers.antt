use Rattle.std.proofs.Common.{◌≤◌, ◌<◌, ◌+◌, ◌∙◌, ap, sym, drop, length, get_or, arith}
use Rattle.std.proofs.lemmas.List.{drop_all}
use Rattle.member_state.proofs.Lists.{drop_next}
use Rattle.member_state.proofs.Plans.{none_touched, table_touched, touched_first}
use Rattle.member_state.proofs.commit.touch_each.Goals as goal

pub loop-serial-preserved : goal.loop-serial-preserved
loop-serial-preserved c =
    let ss = c.args.serials.now in
    let now = c.args.now in
    let i = c.loop-serial.serial-index in
    let t = c.loop-serial.table.table in
    let test = c.loop-serial-test.true in
    let lt : i < length ss = omega arith in
    ap (table_touched (drop (i + 1) ss) now) c.touch.ensures.table
    ∙ (ap (λ es. record t { entries = es }) (touched_first (get_or ss i 0) now (drop (i + 1) ss) t.entries)
    ∙ (ap (λ xs. table_touched xs now t) (sym (drop_next ss i 0 lt)) ∙ c.loop-serial.invariant))

pub returns : goal.returns
returns c =
    let ss = c.args.serials.now in
    let now = c.args.now in
    let i = c.loop-serial.serial-index in
    let t = c.loop-serial.table.table in
    let test = c.loop-serial-test.false in
    let past : length ss ≤ i = omega arith in
    sym (ap (λ xs. table_touched xs now t) (drop_all i ss past)
    ∙ ap (λ es. record t { entries = es }) (none_touched now t.entries)) ∙ c.loop-serial.invariant
