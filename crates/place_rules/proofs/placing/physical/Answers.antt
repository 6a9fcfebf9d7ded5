use Rattle.std.proofs.Common.{◌∙◌, ap, sym}
use Rattle.std.specs.Prelude.{option_map}
use Rattle.switch_meaning.specs.declared.wiring.Outside.{Outside}
use Rattle.place_rules.specs.Joined.{outside_at_spot}
use Rattle.place_rules.proofs.Looked.{wirings-agree}
use Rattle.place_rules.proofs.placing.physical.Goals as goal

pub returns-in-Some : goal.returns-in-Some
returns-in-Some c =
    let plan = c.args.topology.now in
    ap (option_map (λ (o : Outside). o.at.port))
    (ap (option_map (outside_at_spot plan c.args.v c.args.port)) c.in-Some.ensures
    ∙ sym ((wirings-agree plan).outside c.args.v c.args.port))

pub returns-in-None : goal.returns-in-None
returns-in-None c =
    let plan = c.args.topology.now in
    ap (option_map (λ (o : Outside). o.at.port))
    (ap (option_map (outside_at_spot plan c.args.v c.args.port)) c.in-None.ensures
    ∙ sym ((wirings-agree plan).outside c.args.v c.args.port))
