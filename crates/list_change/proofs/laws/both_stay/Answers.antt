use Rattle.list_change.proofs.PairLemmas.{net-changed}
use Rattle.list_change.proofs.laws.both_stay.Goals as goal

pub returns : goal.returns
returns g c = net-changed
