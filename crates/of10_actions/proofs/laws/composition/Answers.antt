use Rattle.of10_actions.proofs.Composing.{apply-and_then}
use Rattle.of10_actions.proofs.laws.composition.Goals as goal

pub returns : goal.returns
returns c = apply-and_then
