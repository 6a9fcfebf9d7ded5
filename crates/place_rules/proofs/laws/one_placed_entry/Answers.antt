use Rattle.agreement.proofs.Followed.{one-placed-entry}
use Rattle.place_rules.proofs.laws.one_placed_entry.Goals as goal

pub returns : goal.returns
returns c = one-placed-entry
