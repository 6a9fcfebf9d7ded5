use Rattle.of10_actions.proofs.Composing.{and_then-groups, and_then-first}
use Rattle.of10_actions.proofs.laws.grouping.Goals as goal

pub returns-clause-groups : goal.returns-clause-groups
returns-clause-groups c = and_then-groups

pub returns-clause-empty_first : goal.returns-clause-empty_first
returns-clause-empty_first c = and_then-first
