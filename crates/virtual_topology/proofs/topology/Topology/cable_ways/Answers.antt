use Rattle.std.proofs.Common.{◌∙◌, ap, length, subst, sym}
use Rattle.virtual_topology.specs.Within.{AreWithin}
use Rattle.virtual_topology.specs.Wires.{both_ways, cable_joints}
use Rattle.virtual_topology.proofs.Bounds.{ways_within}
use Rattle.virtual_topology.proofs.topology.Topology.cable_ways.Goals as goal

pub returns-clause-within : goal.returns-clause-within
returns-clause-within c =
    subst (AreWithin (length c.args.self.now.switches))
    (sym (c.rows.ensures
    ∙ (c.self.invariant.far_ends_is ∙ ap (λ plan. both_ways (cable_joints plan)) c.self.view_is)))
    (ways_within c.args.self.now)
