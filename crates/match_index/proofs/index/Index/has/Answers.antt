use Rattle.std.proofs.Common.{◌∙◌, ap, is_some, sym}
use Rattle.std.specs.List.{list_any}
use Rattle.std.specs.Map.{values_of}
use Rattle.match_index.specs.Items.{has_id}
use Rattle.match_index.proofs.Holds.{any_find, held_find}
use Rattle.match_index.proofs.index.Index.has.Goals as goal

pub returns : goal.returns
returns c =
    let held = c.self.inside.held.entries in
    c.is_some.ensures
    ∙ (c.get_index_of.ensures.found
    ∙ (ap is_some (held_find c.args.id held c.self.invariant.0.ids)
    ∙ (sym (any_find (has_id c.args.id) (values_of held))
    ∙ ap (λ i. list_any (has_id c.args.id) i.items) c.self.view_is)))
