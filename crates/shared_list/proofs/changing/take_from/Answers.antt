use Rattle.std.proofs.Common.{◌≡◌, ◌∙◌, Some, ap, subst, sym}
use Rattle.std.specs.Prelude.{option_map, slice_get}
use Rattle.std.specs.Arc.{arc_value}
use Rattle.shared_list.proofs.Firsts.{any_found, found_first, found_removed}
use Rattle.shared_list.proofs.Runs.{at_any, at_next, find_at_first, removed_at_first, with_items}
use Rattle.shared_list.proofs.changing.take_from.Goals as goal

pub returns-in_default-clause-item : goal.returns-in_default-clause-item
returns-in_default-clause-item g c first =
    let q = g.W.Wanted.wants c.args.wanted.now in
    let items = c.in_ok-items.items in
    let at =
    subst (λ rs. option_map (λ run. arc_value run) (slice_get rs c.args.place) ≡ Some items) c.as_slice.ensures
    c.in_ok-items.ensures in
    absurd (any_found q items (at_any q items c.args.runs.now c.args.place first at)
    (sym c.place_in.ensures ∙ c.in_default.is))

pub returns-in_default-clause-left : goal.returns-in_default-clause-left
returns-in_default-clause-left g c first =
    let q = g.W.Wanted.wants c.args.wanted.now in
    let items = c.in_ok-items.items in
    let at =
    subst (λ rs. option_map (λ run. arc_value run) (slice_get rs c.args.place) ≡ Some items) c.as_slice.ensures
    c.in_ok-items.ensures in
    absurd (any_found q items (at_any q items c.args.runs.now c.args.place first at)
    (sym c.place_in.ensures ∙ c.in_default.is))

pub returns-clause-item : goal.returns-clause-item
returns-clause-item g c first =
    let q = g.W.Wanted.wants c.args.wanted.now in
    let items = c.in_ok-items.items in
    let at =
    subst (λ rs. option_map (λ run. arc_value run) (slice_get rs c.args.place) ≡ Some items) c.as_slice.ensures
    c.in_ok-items.ensures in
    found_first q items _ c.remove-item.result (sym c.place_in.ensures ∙ c.in-Some.is) c.remove-item.ensures.item
    ∙ sym (find_at_first q items c.args.runs.now c.args.place first at)

pub returns-clause-left : goal.returns-clause-left
returns-clause-left g c first =
    let q = g.W.Wanted.wants c.args.wanted.now in
    let items = c.in_ok-items.items in
    let at =
    subst (λ rs. option_map (λ run. arc_value run) (slice_get rs c.args.place) ≡ Some items) c.as_slice.ensures
    c.in_ok-items.ensures in
    let rs = c.args.runs.now in
    let p = c.args.place in
    c.in_ok-replace.ensures.replaced ∙ (sym (at_next rs p c.remove-item.new.self)
    ∙ (ap (with_items rs p) (c.remove-item.ensures.items
    ∙ found_removed q items _ (sym c.place_in.ensures ∙ c.in-Some.is))
    ∙ removed_at_first q items rs p first at))
