use Rattle.std.proofs.Common.{◌∙◌, sym}
use Rattle.place_rules.proofs.Looked.{wirings-agree}
use Rattle.place_rules.proofs.look.next_hop.Goals as goal

pub returns : goal.returns
returns c = c.next_hop.ensures.hop ∙ sym ((wirings-agree c.args.paths.now).next_hop c.args.from c.args.to)
