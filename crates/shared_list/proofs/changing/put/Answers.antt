use Rattle.std.proofs.Common.{◌≡◌, ◌∙◌, Some, ap, subst, sym}
use Rattle.std.specs.Prelude.{option_map, slice_get, unwrap_or}
use Rattle.std.specs.Arc.{arc_value}
use Rattle.shared_list.proofs.Firsts.{put_there}
use Rattle.shared_list.proofs.Runs.{at_next, on_ok, put_at_first, with_items}
use Rattle.shared_list.proofs.changing.put.Goals as goal

pub returns-clause-put : goal.returns-clause-put
returns-clause-put g c first =
    let q = g.W.Wanted.wants c.args.wanted.now in
    let items = c.in_ok-items.items in
    let at =
    subst (λ rs. option_map (λ run. arc_value run) (slice_get rs c.args.place) ≡ Some items) c.as_slice.ensures
    c.in_ok-items.ensures in
    let rs = c.args.runs.now in
    let p = c.args.place in
    on_ok c.replace.result c.replace.ensures.replaced
    (λ e. e ∙ (sym (at_next rs p c.insert.new.self)
    ∙ (ap (with_items rs p) (c.in_ok-insert.ensures.inserted
    ∙ put_there q c.args.item items c.unwrap_or-at.result
    (c.unwrap_or-at.ensures ∙ (λ i. unwrap_or (c.place_in.ensures i) (c.len.ensures i))))
    ∙ put_at_first q items c.args.item rs p first at)))
