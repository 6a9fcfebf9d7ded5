use Rattle.std.proofs.Common.{◌∙◌, ap, sym, Bool}
use Rattle.std.specs.List.{list_any}
use Rattle.match_index.specs.Items.{same_item}
use Rattle.match_index.specs.declared.item.Item.{Item}
use Rattle.match_index.proofs.Asked.{has_in}
use Rattle.match_index.proofs.Buckets.{bucket_items}
use Rattle.match_index.proofs.group.Group.has.Goals as goal

pub returns-in-Some : goal.returns-in-Some
returns-in-Some c =
    let p : Item → Bool = same_item c.args.item.now in
    c.has.ensures
    ∙ (ap (λ o. list_any p (bucket_items o)) c.in-Some.ensures.value
    ∙ (sym (has_in c.self.inside.shape c.args.item.now c.self.inside.buckets.entries c.self.invariant)
    ∙ ap (λ g. list_any p g.items) c.self.view_is))

pub returns-in-None : goal.returns-in-None
returns-in-None c =
    let p : Item → Bool = same_item c.args.item.now in
    ap (λ o. list_any p (bucket_items o)) c.in-None.ensures.value
    ∙ (sym (has_in c.self.inside.shape c.args.item.now c.self.inside.buckets.entries c.self.invariant)
    ∙ ap (λ g. list_any p g.items) c.self.view_is)
