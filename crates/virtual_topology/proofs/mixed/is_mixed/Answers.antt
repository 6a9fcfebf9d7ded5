use Rattle.std.proofs.Common.{◌∙◌, ◌&&◌, Bool, ap, filter}
use Rattle.virtual_topology.specs.Faults.{are_joined}
use Rattle.virtual_topology.specs.Wires.{Joint, lie_apart}
use Rattle.virtual_topology.proofs.Groups.{kept_are}
use Rattle.virtual_topology.proofs.mixed.is_mixed.Goals as goal

pub returns : goal.returns
returns c =
    let links = c.args.links.now in
    let group = filter (λ (o : Joint). are_joined links c.args.number o.0.0) c.args.outside.now in
    c.lie_apart.ensures
    ∙ (ap lie_apart (c.deref.ensures.value
    ∙ (c.in_ok-together.ensures
    ∙ kept_are links c.args.groups.now c.args.number c.requires.number c.requires.groups c.args.outside.now
    c.requires.outside))
    ∙ ap (λ (b : Bool). b && lie_apart group) c.if-not-has_link.ensures)
