use Rattle.agreement.proofs.Ranges.{actions-are-in-range}
use Rattle.agreement.proofs.laws.actions_are_in_range.Goals as goal

pub returns : goal.returns
returns c = actions-are-in-range
