use Rattle.of10_match.proofs.Same.{match_decides}
use Rattle.of10_match.proofs.laws.equality_laws.Goals as goal

pub returns : goal.returns
returns c = match_decides
