use Rattle.agreement.proofs.Lengths.{adds-fit, lists-are-short}
use Rattle.agreement.proofs.laws.composed_lists_fit.Goals as goal

pub returns-clause-short : goal.returns-clause-short
returns-clause-short c = lists-are-short

pub returns-clause-adds : goal.returns-clause-adds
returns-clause-adds c = adds-fit
