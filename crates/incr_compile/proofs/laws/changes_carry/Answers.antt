use Rattle.incr_compile.proofs.Whole.{whole-left, whole-right}
use Rattle.incr_compile.proofs.laws.changes_carry.Goals as goal

pub returns-clause-left : goal.returns-clause-left
returns-clause-left c = whole-left

pub returns-clause-right : goal.returns-clause-right
returns-clause-right c = whole-right
