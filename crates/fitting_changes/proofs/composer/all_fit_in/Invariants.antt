use Rattle.std.proofs.Common.{take}
use Rattle.std.specs.List.{AllByRecursion}
use Rattle.fitting_changes.specs.Composers.{FitsIn}
use Rattle.fitting_changes.proofs.composer.all_fit_in.Given as goal

abbrev pub invariant-loop-rule : goal.invariant-loop-rule
invariant-loop-rule l = AllByRecursion (FitsIn l.size) (take l.rule-index l.rule-items)
