use Rattle.std.proofs.Common.{take}
use Rattle.std.specs.List.{AllByRecursion}
use Rattle.composed_tables.specs.Rules.{IsFitting}
use Rattle.composed_tables.proofs.rules.are_fitting.Given as goal

abbrev pub invariant-loop-rule : goal.invariant-loop-rule
invariant-loop-rule l = AllByRecursion (IsFitting l.size) (take l.rule-index l.rule-items)
