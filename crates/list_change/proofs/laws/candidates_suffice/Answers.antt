use Rattle.list_change.proofs.Kept.{by-candidates}
use Rattle.list_change.proofs.Flat.{each-made}
use Rattle.list_change.proofs.laws.candidates_suffice.Goals as goal

pub returns-clause-passed : goal.returns-clause-passed
returns-clause-passed g c = by-candidates

pub returns-clause-each : goal.returns-clause-each
returns-clause-each g c = each-made
