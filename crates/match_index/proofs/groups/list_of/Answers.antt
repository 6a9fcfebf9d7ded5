use Rattle.std.proofs.Common.{◌∙◌, ◌++◌, take, take_all, refl, sym, ap, append_assoc}
use Rattle.match_index.specs.InsideGroups.{in_groups}
use Rattle.match_index.specs.Items.{ids_of}
use Rattle.match_index.specs.Questions.{asks}
use Rattle.match_index.proofs.Lists.{append_none, groups_pushed, listed_more, take_pushed}
use Rattle.match_index.proofs.groups.list_of.Goals as goal

pub loop-group-init : goal.loop-group-init
loop-group-init c = c.in_ok-list_among.ensures
    ∙ ap (λ xs. c.args.ids.now.items ++ ids_of (asks c.args.question.now) xs) (sym (append_none c.args.late.now))

pub loop-group-preserved : goal.loop-group-preserved
loop-group-preserved c =
    let p = asks c.args.question.now in
    let gs = c.args.groups.now in
    let g = c.group-item.result in
    let so_far = take c.loop-group.group-index gs in
    let more = ap in_groups (take_pushed gs c.loop-group.group-index g c.loop-group-test.true c.group-item.is)
    ∙ groups_pushed so_far g in
    c.in_ok-list.ensures
    ∙ (listed_more p c.args.ids.now.items c.loop-group.ids.items (ids_of p g.items)
    (c.args.late.now ++ in_groups so_far) g.items c.loop-group.invariant refl
    ∙ ap (λ xs. c.args.ids.now.items ++ ids_of p xs) (append_assoc c.args.late.now (in_groups so_far) g.items
    ∙ ap (λ xs. c.args.late.now ++ xs) (sym more)))

pub returns : goal.returns
returns c =
    c.loop-group.invariant
    ∙ ap (λ gs. c.args.ids.now.items ++ ids_of (asks c.args.question.now) (c.args.late.now ++ in_groups gs))
    (take_all c.loop-group.group-index c.args.groups.now c.loop-group-test.false)
