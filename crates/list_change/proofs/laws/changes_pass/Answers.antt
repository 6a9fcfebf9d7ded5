use Rattle.list_change.proofs.PairLemmas.{left-changes, right-changes}
use Rattle.list_change.proofs.laws.changes_pass.Goals as goal

pub returns-clause-left : goal.returns-clause-left
returns-clause-left g c = left-changes

pub returns-clause-right : goal.returns-clause-right
returns-clause-right g c = right-changes
