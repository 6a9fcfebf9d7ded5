use Rattle.std.proofs.Common.{refl}
use Rattle.of10_stats.specs.Parts.{parts_at, taken}
use Rattle.of10_stats.specs.Reading.{items_at}
use Rattle.of10_stats.proofs.laws.worked_examples.Goals as goal

pub returns-clause-poll : goal.returns-clause-poll
returns-clause-poll c = (refl, refl)

pub returns-clause-faults : goal.returns-clause-faults
unfolding items_at
returns-clause-faults c = (refl, refl, refl)

pub returns-clause-parts : goal.returns-clause-parts
unfolding parts_at taken
returns-clause-parts c = refl
