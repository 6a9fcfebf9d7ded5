use Rattle.machine_meaning.specs.WorkedRefusals.{overlap_refused}
use Rattle.machine_meaning.proofs.worked.an_overlap_is_refused.Goals as goal

pub returns : goal.returns
returns c = overlap_refused
