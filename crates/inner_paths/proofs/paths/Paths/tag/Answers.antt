use Rattle.std.proofs.Common.{◌∙◌, ap}
use Rattle.std.specs.Map.{lookup}
use Rattle.virtual_topology.specs.Rows.{same_spot}
use Rattle.inner_paths.specs.Tags.{tag_of}
use Rattle.inner_paths.proofs.TagsFound.{tag_found}
use Rattle.inner_paths.proofs.paths.Paths.tag.Goals as goal

pub returns : goal.returns
returns c =
    c.get.ensures ∙ (ap (lookup (same_spot (c.args.v, c.args.port))) c.self.invariant.tags_are
    ∙ (tag_found c.self.inside.plan c.args.v c.args.port
    ∙ ap (λ plan. tag_of plan c.args.v c.args.port) c.self.view_is))
