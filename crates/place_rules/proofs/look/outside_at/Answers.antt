use Rattle.std.proofs.Common.{◌∙◌, Option, Some, ap, sym}
use Rattle.std.specs.Prelude.{ℕ, option_map}
use Rattle.inner_paths.specs.Tags.{tag_of}
use Rattle.virtual_topology.specs.declared.plan.TopologyPlan.{TopologyPlan}
use Rattle.switch_meaning.specs.declared.wiring.Outside.{Outside}
use Rattle.place_rules.specs.Joined.{outside_at_spot, port_at}
use Rattle.place_rules.proofs.Looked.{wirings-agree}
use Rattle.place_rules.proofs.look.outside_at.Goals as goal

pub returns-in-Some : goal.returns-in-Some
returns-in-Some c =
    let plan = c.args.topology.now in
    let tagged : (t : Option ℕ)
    → Option Outside =
    λ t. Some (record { v = c.args.v; port = c.args.port; at = port_at c.in-Some.at; tag = t }) in
    ap tagged (c.tag.ensures ∙ ap (λ (p : TopologyPlan). tag_of p c.args.v c.args.port) c.requires)
    ∙ (ap (option_map (outside_at_spot plan c.args.v c.args.port)) c.in-Some.ensures
    ∙ sym ((wirings-agree plan).outside c.args.v c.args.port))

pub returns-in-None : goal.returns-in-None
returns-in-None c =
    let plan = c.args.topology.now in
    ap (option_map (outside_at_spot plan c.args.v c.args.port)) c.in-None.ensures
    ∙ sym ((wirings-agree plan).outside c.args.v c.args.port)
