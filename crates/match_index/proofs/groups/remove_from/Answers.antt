use Rattle.std.proofs.Common.{◌≡◌, ◌∙◌, List, Some, None, sym, subst, true≢false, arith}
use Rattle.std.specs.List.{list_any, position}
use Rattle.std.proofs.lemmas.List.Quantifiers.{position-Some}
use Rattle.match_index.specs.InsideGroups.{GroupOf}
use Rattle.match_index.specs.Items.{same_item}
use Rattle.match_index.proofs.Grouped.{groups_taken, item_there, not_in_groups}
use Rattle.match_index.proofs.groups.remove_from.Goals as goal

pub remove-requires : goal.remove-requires
remove-requires c =
    let At : List GroupOf → Type 0 = λ gs. position (λ g. list_any (same_item c.args.item.now) g.items) gs
    ≡ Some c.in-Some.place in
    item_there c.args.item.now c.args.groups.now.items c.in-Some.place c.index_mut.result.now
    (subst At c.deref.ensures.value (sym c.in-Some.ensures)) c.index_mut.ensures.value

pub returns-in-Some : goal.returns-in-Some
returns-in-Some c p =
    let At : List GroupOf → Type 0 = λ gs. position (λ g. list_any (same_item c.args.item.now) g.items) gs
    ≡ Some c.in-Some.place in
    let within =
    (position-Some (λ g. list_any (same_item c.args.item.now) g.items) c.args.groups.now.items c.in-Some.place
    c.index_mut.result.now (subst At c.deref.ensures.value (sym c.in-Some.ensures))).0 in
    let taken = groups_taken c.args.item.now c.args.groups.now.items c.in-Some.place c.index_mut.result.now
    c.remove.new.self within c.index_mut.ensures.value c.remove.ensures p in
    let same = c.drop_empty.ensures p in
    omega (arith, taken, same)

pub returns-in_default : goal.returns-in_default
returns-in_default c =
    let At : List GroupOf → Type 0 = λ gs. position (λ g. list_any (same_item c.args.item.now) g.items) gs ≡ None in
    absurd
    (true≢false (sym c.requires
    ∙ not_in_groups c.args.item.now c.args.groups.now.items
    (subst At c.deref.ensures.value (sym c.in_default.ensures))))
