use Rattle.std.proofs.Common.{◌∙◌, ap, sym}
use Rattle.std.specs.Prelude.{option_map}
use Rattle.place_rules.specs.Joined.{port_at}
use Rattle.place_rules.proofs.Looked.{wirings-agree}
use Rattle.place_rules.proofs.look.far_end.Goals as goal

pub returns-in-Some : goal.returns-in-Some
returns-in-Some c = ap (option_map port_at) c.in-Some.ensures
    ∙ sym ((wirings-agree c.args.topology.now).far_end c.args.at.switch c.args.at.port)

pub returns-in-None : goal.returns-in-None
returns-in-None c = ap (option_map port_at) c.in-None.ensures
    ∙ sym ((wirings-agree c.args.topology.now).far_end c.args.at.switch c.args.at.port)
