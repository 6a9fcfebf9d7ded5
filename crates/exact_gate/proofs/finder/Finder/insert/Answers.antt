use Rattle.std.proofs.Common.{◌∙◌, ap}
use Rattle.std.specs.List.{list_any}
use Rattle.match_index.specs.Items.{has_id}
use Rattle.exact_gate.proofs.Finding.{exact-in}
use Rattle.exact_gate.proofs.finder.Finder.insert.Goals as goal

pub put-requires-clause-new_id : goal.put-requires-clause-new_id
put-requires-clause-new_id c =
    ap (list_any (has_id c.args.id)) c.reserve.ensures.items
    ∙ exact-in c.self.inside.all.items c.self.inside.exact.items (has_id c.args.id) c.self.invariant
    (ap (list_any (has_id c.args.id)) c.self.view_is ∙ c.requires)
