use Rattle.std.proofs.Common.{◌≡◌, ◌∙◌, sym, ap, subst, subst₂, List, Some}
use Rattle.std.specs.List.{position}
use Rattle.match_index.proofs.Lists.{got_same}
use Rattle.std.specs.List.{list_any}
use Rattle.match_index.specs.Items.{AddsTo, same_item}
use Rattle.match_index.specs.declared.item.Item.{Item}
use Rattle.match_index.proofs.Counts.{AddsTo-swap_remove, item_at, position-none, position-some_any}
use Rattle.match_index.proofs.search.take_out.Goals as goal

pub returns-in-Some-clause-found : goal.returns-in-Some-clause-found
returns-in-Some-clause-found c = sym (ap (list_any (same_item c.args.item.now)) (sym c.deref.ensures.value)
    ∙ position-some_any (same_item c.args.item.now) c.deref.result.now c.in-Some.place (sym c.in-Some.ensures))

pub returns-in-Some-clause-taken : goal.returns-in-Some-clause-taken
returns-in-Some-clause-taken c _ =
    let items = c.args.items.now.items in
    let At : List Item → Type 0 = λ xs. position (same_item c.args.item.now) xs ≡ Some c.in-Some.place in
    let at = item_at c.args.item.now items c.in-Some.place (subst At c.deref.ensures.value (sym c.in-Some.ensures)) in
    let taken : c.swap_remove.result ≡ c.args.item.now = c.swap_remove.ensures.value
    ∙ (got_same items c.in-Some.place c.swap_remove.result c.args.item.now at.0 ∙ sym at.1) in
    let P : Item → List Item → Type 0 = λ x xs. AddsTo x xs items in
    subst₂ P taken (sym c.swap_remove.ensures.items)
    (AddsTo-swap_remove items c.in-Some.place c.swap_remove.result at.0 c.swap_remove.ensures.value)

pub returns-in-None-clause-found : goal.returns-in-None-clause-found
returns-in-None-clause-found c = sym (ap (list_any (same_item c.args.item.now)) (sym c.deref.ensures.value)
    ∙ position-none (same_item c.args.item.now) c.deref.result.now (sym c.in-None.ensures))
