use Rattle.switch_meaning.proofs.Counted.{counts-add, counts-without-totals, folding-keeps-counts}
use Rattle.switch_meaning.proofs.laws.counting.Goals as goal

pub returns-clause-whole : goal.returns-clause-whole
returns-clause-whole c = counts-without-totals

pub returns-clause-folded : goal.returns-clause-folded
returns-clause-folded c = folding-keeps-counts

pub returns-clause-parts : goal.returns-clause-parts
returns-clause-parts c = counts-add
