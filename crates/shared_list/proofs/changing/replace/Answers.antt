use Rattle.std.proofs.Common.{◌≡◌, ◌∙◌, ◌<◌, ◌++◌, ap, drop, length, subst, sym, take, take-append-drop}
use Rattle.std.specs.Prelude.{slice_set}
use Rattle.std.specs.Arc.{arc_value}
use Rattle.shared_list.specs.InsideRuns.{HaveItems, joined}
use Rattle.shared_list.proofs.Runs.{at_next, back_some, front_some, gone, have_gone, have_parted_next, have_replaced}
use Rattle.shared_list.proofs.Runs.{no_items, parted_next, replaced, some_items, with_items}
use Rattle.shared_list.proofs.changing.replace.Goals as goal

pub returns-then-is_empty-clause-replaced : goal.returns-then-is_empty-clause-replaced
returns-then-is_empty-clause-replaced g c =
    gone c.args.runs.now c.args.place c.remove.new.self c.args.items c.remove.ensures.items
    (no_items c.args.items c.if-is_empty.ensures) ∙ at_next c.args.runs.now c.args.place c.args.items

pub returns-then-is_empty-clause-each : goal.returns-then-is_empty-clause-each
returns-then-is_empty-clause-each g c = have_gone c.args.runs.now c.args.place c.remove.new.self c.remove.ensures.items

pub returns-then-len-le-MOST-clause-replaced : goal.returns-then-len-le-MOST-clause-replaced
returns-then-len-le-MOST-clause-replaced g c =
    ap joined c.set.ensures
    ∙ (replaced c.args.runs.now c.args.place c.in_ok-new.field-0 c.requires
    ∙ (ap (with_items c.args.runs.now c.args.place) c.in_ok-new.ensures.ok
    ∙ at_next c.args.runs.now c.args.place c.args.items))

pub returns-then-len-le-MOST-clause-each : goal.returns-then-len-le-MOST-clause-each
returns-then-len-le-MOST-clause-each g c have =
    subst HaveItems (sym c.set.ensures)
    (have_replaced c.args.runs.now c.args.place c.in_ok-new.field-0
    (subst (λ xs. 0 < length xs) (sym c.in_ok-new.ensures.ok) (some_items c.args.items c.if-is_empty.ensures)) have)

pub returns-clause-replaced : goal.returns-clause-replaced
returns-clause-replaced g c =
    let items = c.args.items in
    let front : arc_value c.in_ok-first.first ≡ take 16 items =
    c.in_ok-first.ensures.ok
    ∙ (c.from_vec.ensures ∙ (c.in_ok-back.ensures.items ∙ ap (take 16) c.into_vec-front.ensures)) in
    let back : arc_value c.in_ok-second.second ≡ drop 16 items =
    c.in_ok-second.ensures.ok
    ∙ (c.from_vec-2.ensures ∙ (c.in_ok-back.ensures.tail ∙ ap (drop 16) c.into_vec-front.ensures)) in
    ap joined (c.set-2.ensures
    ∙ ap (λ rs. slice_set rs c.args.place c.in_ok-first.first) c.in_ok-insert.ensures.inserted)
    ∙ (parted_next c.args.runs.now c.args.place c.in_ok-first.first c.in_ok-second.second c.requires
    ∙ (ap (with_items c.args.runs.now c.args.place) ((λ i. front i ++ back i) ∙ take-append-drop 16 items)
    ∙ at_next c.args.runs.now c.args.place items))

pub returns-clause-each : goal.returns-clause-each
returns-clause-each g c have =
    let items = c.args.items in
    let front : arc_value c.in_ok-first.first ≡ take 16 items =
    c.in_ok-first.ensures.ok
    ∙ (c.from_vec.ensures ∙ (c.in_ok-back.ensures.items ∙ ap (take 16) c.into_vec-front.ensures)) in
    let back : arc_value c.in_ok-second.second ≡ drop 16 items =
    c.in_ok-second.ensures.ok
    ∙ (c.from_vec-2.ensures ∙ (c.in_ok-back.ensures.tail ∙ ap (drop 16) c.into_vec-front.ensures)) in
    subst HaveItems
    (sym (c.set-2.ensures ∙ ap (λ rs. slice_set rs c.args.place c.in_ok-first.first) c.in_ok-insert.ensures.inserted))
    (have_parted_next c.args.runs.now c.args.place c.in_ok-first.first c.in_ok-second.second
    (subst (λ xs. 0 < length xs) (sym front) (front_some items c.len.result c.len.ensures c.if-len-le-MOST.false))
    (subst (λ xs. 0 < length xs) (sym back) (back_some items c.len.result c.len.ensures c.if-len-le-MOST.false)) have)
