use Rattle.place_rules.proofs.Looked.{wirings-agree}
use Rattle.place_rules.proofs.laws.wirings.Goals as goal

pub returns : goal.returns
returns c = wirings-agree
