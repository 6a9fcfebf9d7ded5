use Rattle.std.proofs.Common.{◌∙◌, ap}
use Rattle.std.specs.Map.{lookup}
use Rattle.virtual_topology.specs.Rows.{same_spot}
use Rattle.virtual_topology.specs.Wires.{outside_of}
use Rattle.virtual_topology.proofs.topology.Topology.outside.Goals as goal

pub returns : goal.returns
returns c =
    c.get.ensures ∙ (ap (lookup (same_spot (c.args.v, c.args.port))) c.self.invariant.outside_is
    ∙ ap (λ plan. outside_of plan c.args.v c.args.port) c.self.view_is)
