use Rattle.std.proofs.Common.{◌∙◌}
use Rattle.std.specs.Map.{lookup}
use Rattle.virtual_topology.specs.Places.{in_role, same_use}
use Rattle.virtual_topology.specs.Shown.{shown}
use Rattle.virtual_topology.proofs.Steps.{lookup_shown}
use Rattle.virtual_topology.proofs.known.Known.spot_as.Goals as goal

pub returns : goal.returns
returns c = c.get.ensures ∙ (lookup_shown (record c.args.place.now { role = c.args.role }) c.self.inside.rows
    ∙ (λ i. lookup (same_use (in_role c.args.role (shown c.args.place.now).place)) (c.self.view_is i)))
