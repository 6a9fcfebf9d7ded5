use Rattle.list_change.proofs.PairLemmas.{changed-ordered, changed-beside}
use Rattle.list_change.proofs.laws.changes_join.Goals as goal

pub returns-clause-ordered : goal.returns-clause-ordered
returns-clause-ordered g c = changed-ordered

pub returns-clause-beside : goal.returns-clause-beside
returns-clause-beside g c = changed-beside
