use Rattle.exact_gate.proofs.Standing.{same-is-installed}
use Rattle.exact_gate.proofs.laws.installing.Goals as goal

pub returns : goal.returns
returns c = same-is-installed
