use Rattle.std.proofs.Common.{refl}
use Rattle.stats_map.proofs.laws.worked_counts.Goals as goal

pub returns : goal.returns
returns c = (refl, refl, refl, refl)
