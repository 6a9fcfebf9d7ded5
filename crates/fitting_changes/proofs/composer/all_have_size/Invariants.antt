use Rattle.std.proofs.Common.{take}
use Rattle.std.specs.List.{AllByRecursion}
use Rattle.fitting_changes.specs.Composers.{HasSize}
use Rattle.fitting_changes.proofs.composer.all_have_size.Given as goal

abbrev pub invariant-loop-table : goal.invariant-loop-table
invariant-loop-table l = AllByRecursion (HasSize l.size) (take l.table-index l.table-items)
