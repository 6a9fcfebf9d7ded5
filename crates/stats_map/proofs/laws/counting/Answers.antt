use Rattle.stats_map.proofs.Ever.{counts-are-of-all}
use Rattle.stats_map.proofs.laws.counting.Goals as goal

pub returns : goal.returns
returns c = counts-are-of-all
