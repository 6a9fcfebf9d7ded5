use Rattle.machine_meaning.proofs.Matters.{matters_kept}
use Rattle.machine_meaning.proofs.laws.what_matters_is_kept.Goals as goal

pub returns : goal.returns
returns c = matters_kept
