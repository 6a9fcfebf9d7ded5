use Rattle.std.proofs.Common.{◌∙◌, ap}
use Rattle.std.specs.Map.{lookup}
use Rattle.virtual_topology.specs.Rows.{same_spot}
use Rattle.virtual_topology.specs.Wires.{entering_of}
use Rattle.virtual_topology.proofs.topology.Topology.entering.Goals as goal

pub returns : goal.returns
returns c =
    c.get.ensures ∙ (ap (lookup (same_spot (c.args.switch, c.args.port))) c.self.invariant.entering_is
    ∙ ap (λ plan. entering_of plan c.args.switch c.args.port) c.self.view_is)
