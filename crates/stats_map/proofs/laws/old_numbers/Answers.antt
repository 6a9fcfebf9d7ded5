use Rattle.stats_map.proofs.Reporting.{told-back}
use Rattle.stats_map.proofs.laws.old_numbers.Goals as goal

pub returns : goal.returns
returns c = told-back
