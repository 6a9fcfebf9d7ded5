use Rattle.incr_compile.proofs.Whole.{settled-items, settled-rules}
use Rattle.incr_compile.proofs.laws.changes_settle.Goals as goal

pub returns-clause-made : goal.returns-clause-made
returns-clause-made c = settled-items

pub returns-clause-seen : goal.returns-clause-seen
returns-clause-seen c = settled-rules
