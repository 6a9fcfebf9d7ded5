use Rattle.std.proofs.Common.{◌∙◌, ◌++◌, List, take, take_all, sym, ap, subst, subst₂, append_assoc, Option}
use Rattle.match_index.specs.InsideGroups.{GroupOf, in_groups}
use Rattle.match_index.specs.Items.{IsTop}
use Rattle.match_index.specs.Questions.{asks}
use Rattle.match_index.specs.declared.item.Item.{Item}
use Rattle.match_index.proofs.Lists.{append_none, groups_pushed, take_pushed}
use Rattle.match_index.proofs.Tops.{top_both}
use Rattle.match_index.proofs.groups.top_of.Goals as goal

pub loop-group-init : goal.loop-group-init
loop-group-init c =
    let P : List Item → Type 0 = λ xs. IsTop (asks c.args.question.now) xs c.top_among-top.result in
    subst P (sym (append_none c.args.late.now)) c.top_among-top.ensures

pub loop-group-preserved : goal.loop-group-preserved
loop-group-preserved c =
    let p = asks c.args.question.now in
    let gs = c.args.groups.now in
    let g = c.group-item.result in
    let so_far = take c.loop-group.group-index gs in
    let more = ap in_groups (take_pushed gs c.loop-group.group-index g c.loop-group-test.true c.group-item.is)
    ∙ groups_pushed so_far g in
    let P : Option Item → List Item → Type 0 = λ o xs. IsTop p xs o in
    subst₂ P (sym c.before-top.ensures) (append_assoc c.args.late.now (in_groups so_far) g.items
    ∙ ap (λ xs. c.args.late.now ++ xs) (sym more))
    (top_both p (c.args.late.now ++ in_groups so_far) g.items c.loop-group.top c.top.result c.loop-group.invariant
    c.top.ensures)

pub returns : goal.returns
returns c =
    let P : List GroupOf
    → Type 0 = λ gs. IsTop (asks c.args.question.now) (c.args.late.now ++ in_groups gs) c.loop-group.top in
    subst P (take_all c.loop-group.group-index c.args.groups.now c.loop-group-test.false) c.loop-group.invariant
