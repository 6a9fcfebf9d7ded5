use Rattle.std.specs.List.{AllByRecursion}
use Rattle.policy_meaning.specs.LeafFact.{IsSoundTable}
use Rattle.random_changes.proofs.members.empty_tables.Given as goal

abbrev pub invariant-loop-member : goal.invariant-loop-member
invariant-loop-member l = AllByRecursion IsSoundTable l.tables
