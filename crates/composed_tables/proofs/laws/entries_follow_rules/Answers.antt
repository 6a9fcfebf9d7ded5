use Rattle.composed_tables.proofs.Entering.{entries-by-entrance, entries-change}
use Rattle.composed_tables.proofs.laws.entries_follow_rules.Goals as goal

pub returns-clause-scratch : goal.returns-clause-scratch
returns-clause-scratch c = entries-by-entrance

pub returns-clause-changes : goal.returns-clause-changes
returns-clause-changes c = entries-change
