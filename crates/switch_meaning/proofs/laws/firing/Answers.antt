use Rattle.switch_meaning.proofs.Placed.{firing-gives-outs}
use Rattle.switch_meaning.proofs.laws.firing.Goals as goal

pub returns : goal.returns
returns c = firing-gives-outs
