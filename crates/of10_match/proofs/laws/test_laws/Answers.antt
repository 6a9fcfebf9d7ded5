use Rattle.std.proofs.Common.{refl}
use Rattle.of10_match.specs.Matching.{covers, overlaps}
use Rattle.of10_match.proofs.Covering.{covers_exact}
use Rattle.of10_match.proofs.Overlapping.{overlaps_exact}
use Rattle.of10_match.proofs.laws.test_laws.Goals as goal

pub returns-clause-overlaps : goal.returns-clause-overlaps
returns-clause-overlaps c = λ m n p q. overlaps_exact (overlaps m n) m n p q refl

pub returns-clause-covers : goal.returns-clause-covers
returns-clause-covers c = λ m n p q. covers_exact (covers m n) m n p q refl
