use Rattle.list_change.proofs.Came.{came-ordered, none-came, what-came}
use Rattle.list_change.proofs.laws.what_came.Goals as goal

pub returns-clause-come : goal.returns-clause-come
returns-clause-come g c = what-came

pub returns-clause-ordered : goal.returns-clause-ordered
returns-clause-ordered g c = came-ordered

pub returns-clause-none : goal.returns-clause-none
returns-clause-none g c = none-came
