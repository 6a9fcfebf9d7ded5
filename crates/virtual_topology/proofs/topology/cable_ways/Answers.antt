use Rattle.std.proofs.Common.{◌≡◌, ◌∙◌, ap}
use Rattle.virtual_topology.specs.declared.uses.Role.TheVariants.{Physical}
use Rattle.virtual_topology.specs.Wires.{both_ways, cable_joints, joints_among}
use Rattle.virtual_topology.proofs.topology.cable_ways.Goals as goal

pub returns : goal.returns
returns c =
    let cables : c.deref.result.now ≡ cable_joints c.args.plan.now =
    c.deref.ensures.value
    ∙ (c.in_ok-cables.ensures ∙ (λ i. joints_among (c.requires i) Physical (c.as_slice.ensures i))) in
    c.in_ok-ways.ensures ∙ ap both_ways cables
