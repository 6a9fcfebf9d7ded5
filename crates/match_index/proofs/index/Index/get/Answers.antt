use Rattle.std.proofs.Common.{◌∙◌, ap, find}
use Rattle.match_index.specs.Items.{has_id}
use Rattle.match_index.proofs.Holds.{held_find}
use Rattle.match_index.proofs.index.Index.get.Goals as goal

pub returns : goal.returns
returns c = c.get.ensures.value
    ∙ (held_find c.args.id c.self.inside.held.entries c.self.invariant.0.ids
    ∙ ap (λ x. find (has_id c.args.id) x.items) c.self.view_is)
