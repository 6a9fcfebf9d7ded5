use Rattle.list_change.proofs.Kept.{made-without_left, made-without_right}
use Rattle.list_change.proofs.laws.parts_go.Goals as goal

pub returns-clause-left : goal.returns-clause-left
returns-clause-left g c = made-without_left

pub returns-clause-right : goal.returns-clause-right
returns-clause-right g c = made-without_right
