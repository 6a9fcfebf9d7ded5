use Rattle.std.proofs.Common.{◌∙◌}
use Rattle.std.specs.Map.{lookup}
use Rattle.virtual_topology.specs.Places.{same_use}
use Rattle.virtual_topology.proofs.Steps.{lookup_shown}
use Rattle.virtual_topology.proofs.known.Known.spot.Goals as goal

pub returns : goal.returns
returns c = c.get.ensures ∙ (lookup_shown c.of.result c.self.inside.rows
    ∙ (λ i. lookup (same_use (c.of.ensures i)) (c.self.view_is i)))
